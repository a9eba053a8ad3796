-- `varint n` spells n, and nothing else does.
use Rattle.std.proofs.Common.{◌≡◌, ℕ, zero, suc, ◌+◌, ◌*◌, ◌/◌, ◌%◌, ◌^◌, ◌<◌, ◌≤◌, true, false, List, [], ◌∷◌, ◌++◌, length, take, set, refl, sym, ◌∙◌, ap, subst, arith, cond, nat_lt, pow-suc, append_assoc}
use Rattle.std.proofs.lemmas.Bool.{ltb-true, ltb-false, le-ltb, lt-ltb}
use Rattle.std.proofs.lemmas.List.{take_more_set}
use Rattle.model_base.specs.Varint.{IsVarint, varint_within, varint}

-- A byte of 128 or more, followed by a spelling of `high`, spells its low seven bits plus 128 * high.
pub in_front : (b high n : ℕ) (bytes : List ℕ) → 128 ≤ b → b < 256 → 0 < high → n + 128 ≡ b + 128 * high → IsVarint bytes high → IsVarint (b ∷ bytes) n
in_front b high n [] low fits some e is = absurd is
in_front b high n (c ∷ bytes) low fits some e is = (low, fits, high, some, e, is)

spells_within : (k n : ℕ) → n < 128 ^ suc k → IsVarint (varint_within (suc k) n) n
unfolding varint_within
spells_within zero n small = elim (nat_lt n 128) as (λ b. nat_lt n 128 ≡ b → IsVarint (cond b (n ∷ []) ((128 + n % 128) ∷ [])) n) [
  | true ↦ λ e. (ltb-true n 128 e, refl)
  | false ↦ λ e. absurd (omega (arith, small, ltb-false n 128 e))
] refl
spells_within (suc k) n small = elim (nat_lt n 128) as (λ b. nat_lt n 128 ≡ b → IsVarint (cond b (n ∷ []) ((128 + n % 128) ∷ varint_within (suc k) (n / 128))) n) [
  | true ↦ λ e. (ltb-true n 128 e, refl)
  | false ↦ λ e.
      let large : 128 ≤ n = ltb-false n 128 e in
      in_front (128 + n % 128) (n / 128) n (varint_within (suc k) (n / 128)) (omega arith) (omega arith) (omega (arith, large)) (omega arith)
      (spells_within k (n / 128) (omega (arith, small, pow-suc 128 (suc k))))
] refl

-- `varint n` spells n, where n has 32 bits at most.
pub varint_spells : (n : ℕ) → n < 2 ^ 32 → IsVarint (varint n) n
varint_spells n small = spells_within 4 n (omega (arith, small))

-- No spelling is the beginning of another spelling, so each spells one number.
pub one_varint : (a b x y : List ℕ) (m n : ℕ) → IsVarint a m → IsVarint b n → a ++ x ≡ b ++ y → (a ≡ b) × (m ≡ n)
one_varint [] b x y m n is_a is_b e = absurd is_a
one_varint (c ∷ a) [] x y m n is_a is_b e = absurd is_b
one_varint (c ∷ []) (d ∷ []) x y m n is_a is_b e = let same : c ≡ d = cc in (ap (λ (v : ℕ). v ∷ []) same, is_a.1 ∙ same ∙ sym is_b.1)
one_varint (c ∷ []) (d ∷ f ∷ b) x y m n is_a is_b e = let same : c ≡ d = cc in absurd (omega (arith, same, is_a.0, is_b.0))
one_varint (c ∷ g ∷ a) (d ∷ []) x y m n is_a is_b e = let same : c ≡ d = cc in absurd (omega (arith, same, is_a.0, is_b.0))
one_varint (c ∷ g ∷ a) (d ∷ f ∷ b) x y m n is_a is_b e =
    let same : c ≡ d = cc in
    let tails : (g ∷ a) ++ x ≡ (f ∷ b) ++ y = cc in
    let rest = one_varint (g ∷ a) (f ∷ b) x y is_a.2 is_b.2 is_a.5 is_b.5 tails in
    (ap (λ (v : ℕ). v ∷ g ∷ a) same ∙ ap (λ (l : List ℕ). d ∷ l) rest.0, omega (arith, same, rest.1, is_a.4, is_b.4))

-- A number has one spelling at most.
pub one_number : (a b : List ℕ) (n : ℕ) → IsVarint a n → IsVarint b n → a ≡ b
one_number [] b n is_a is_b = absurd is_a
one_number (c ∷ a) [] n is_a is_b = absurd is_b
one_number (c ∷ []) (d ∷ []) n is_a is_b = ap (λ (v : ℕ). v ∷ []) (sym is_a.1 ∙ is_b.1)
one_number (c ∷ []) (d ∷ f ∷ b) n is_a is_b = absurd (omega (arith, is_a.0, is_a.1, is_b.0, is_b.3, is_b.4))
one_number (c ∷ g ∷ a) (d ∷ []) n is_a is_b = absurd (omega (arith, is_b.0, is_b.1, is_a.0, is_a.3, is_a.4))
one_number (c ∷ g ∷ a) (d ∷ f ∷ b) n is_a is_b =
    let first : c ≡ d = omega (arith, is_a.0, is_a.1, is_a.4, is_b.0, is_b.1, is_b.4) in
    let high : is_b.2 ≡ is_a.2 = omega (arith, is_a.0, is_a.1, is_a.4, is_b.0, is_b.1, is_b.4) in
    let rest = one_number (g ∷ a) (f ∷ b) is_a.2 is_a.5 (subst (IsVarint (f ∷ b)) high is_b.5) in
    ap (λ (v : ℕ). v ∷ g ∷ a) first ∙ ap (λ (l : List ℕ). d ∷ l) rest

-- So each spelling of a number is its `varint`.
pub spelled_as : (spelling : List ℕ) (n : ℕ) → n < 2 ^ 32 → IsVarint spelling n → spelling ≡ varint n
spelled_as spelling n small is = one_number spelling (varint n) n is (varint_spells n small)

-- the spelling of a number of 128 or more begins with its low seven bits
varint_within-more : (k n : ℕ) → 128 ≤ n → varint_within (suc k) n ≡ (128 + n % 128) ∷ varint_within k (n / 128)
unfolding varint_within
varint_within-more k n large = ap (λ b. cond b (n ∷ []) ((128 + n % 128) ∷ varint_within k (n / 128))) (le-ltb n 128 large)

-- the spelling of a number below 128 is this number as one byte
varint_within-last : (k n : ℕ) → n < 128 → varint_within (suc k) n ≡ n ∷ []
unfolding varint_within
varint_within-last k n small = ap (λ b. cond b (n ∷ []) ((128 + n % 128) ∷ varint_within k (n / 128))) (lt-ltb n 128 small)

-- With one more byte written, what is written and the spelling of what is left are still the whole spelling.
pub spelling_goes_on : (spelling whole : List ℕ) (len k rest : ℕ) → len < length spelling → 128 ≤ rest → take len spelling ++ varint_within (suc k) rest ≡ whole
    → take (len + 1) (set spelling len (128 + rest % 128)) ++ varint_within k (rest / 128) ≡ whole
spelling_goes_on spelling whole len k rest room large e =
    rw (take_more_set spelling len (128 + rest % 128) room, append_assoc, ← varint_within-more k rest large) e

-- With the last byte written, what is written is the whole spelling.
pub spelling_ends : (spelling whole : List ℕ) (len k rest : ℕ) → len < length spelling → rest < 128 → take len spelling ++ varint_within (suc k) rest ≡ whole
    → take (len + 1) (set spelling len rest) ≡ whole
spelling_ends spelling whole len k rest room small e =
    rw (take_more_set spelling len rest room, ← varint_within-last k rest small) e

-- What is left of a number after a byte of it is written fits in one byte less.
pub rest_fits : (rest k : ℕ) → rest < 128 ^ suc k → rest / 128 < 128 ^ k
rest_fits rest k fits = omega (arith, fits, pow-suc 128 k)

-- If a number of 128 or more fits in k + 1 bytes, k isn't 0.
pub more_bytes : (rest k : ℕ) → rest < 128 ^ suc k → 128 ≤ rest → 0 < k
more_bytes rest zero fits large = absurd (omega (arith, fits, large))
more_bytes rest (suc k) fits large = omega arith

-- how many bytes a spelling has, by the size of its number
length-last : (k n : ℕ) → n < 128 → length (varint_within (suc k) n) ≡ 1
length-last k n small = ap length (varint_within-last k n small)

length-more : (k n : ℕ) → 128 ≤ n → length (varint_within (suc k) n) ≡ suc (length (varint_within k (n / 128)))
length-more k n large = ap length (varint_within-more k n large)

-- a spelling in one byte at most has one byte, whatever the number
length-one : (n : ℕ) → length (varint_within 1 n) ≡ 1
unfolding varint_within
length-one n = elim (nat_lt n 128) as (λ b. length (cond b (n ∷ []) ((128 + n % 128) ∷ [])) ≡ 1) [ true ↦ refl | false ↦ refl ]

-- The spelling of a number below 2 ^ 7 has one byte, below 2 ^ 14 two, below 2 ^ 21 three, below 2 ^ 28 four, and else
-- five.
pub one_byte : (n : ℕ) → n < 128 → length (varint n) ≡ 1
one_byte n small = length-last 4 n small

pub two_bytes : (n : ℕ) → 128 ≤ n → n < 16384 → length (varint n) ≡ 2
two_bytes n large small = length-more 4 n large ∙ ap suc (length-last 3 (n / 128) (omega (arith, small)))

pub three_bytes : (n : ℕ) → 16384 ≤ n → n < 2097152 → length (varint n) ≡ 3
three_bytes n large small = length-more 4 n (omega (arith, large)) ∙ ap suc (length-more 3 (n / 128) (omega (arith, large)) ∙ ap suc (length-last 2 (n / 128 / 128) (omega (arith, small))))

pub four_bytes : (n : ℕ) → 2097152 ≤ n → n < 268435456 → length (varint n) ≡ 4
four_bytes n large small =
    length-more 4 n (omega (arith, large)) ∙ ap suc (length-more 3 (n / 128) (omega (arith, large))
    ∙ ap suc (length-more 2 (n / 128 / 128) (omega (arith, large)) ∙ ap suc (length-last 1 (n / 128 / 128 / 128) (omega (arith, small)))))

pub five_bytes : (n : ℕ) → 268435456 ≤ n → length (varint n) ≡ 5
five_bytes n large =
    length-more 4 n (omega (arith, large)) ∙ ap suc (length-more 3 (n / 128) (omega (arith, large))
    ∙ ap suc (length-more 2 (n / 128 / 128) (omega (arith, large)) ∙ ap suc (length-more 1 (n / 128 / 128 / 128) (omega (arith, large)) ∙ ap suc (length-one (n / 128 / 128 / 128 / 128)))))
