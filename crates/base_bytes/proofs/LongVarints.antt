-- Reading a varint from its first byte on: the number in the low bits of the bytes so far, and the power of 2 by which
-- the next byte's bits are multiplied.
use Rattle.std.proofs.Common.{◌≡◌, ℕ, zero, suc, ◌+◌, ◌-◌, ◌*◌, ◌^◌, ◌%◌, ◌<◌, ◌≤◌, List, [], ◌∷◌, ◌++◌, length, take, get_or, refl, ◌∙◌, ap, subst, arith, append_assoc, add-one}
use Rattle.std.proofs.Math.Nat.{mul-le-mul_left, mod-eq_of_lt}
use Rattle.std.proofs.lemmas.Nat.{pow-add}
use Rattle.std.proofs.lemmas.List.{take_more}
use Rattle.std.specs.List.{AllByRecursion}
use Rattle.model_base.specs.Varint.{IsVarint}
use Rattle.base_bytes.proofs.Spellings.{in_front}

-- What holds of each of the first i bytes, and of the next one, holds of each of the first i + 1 bytes.
pub all_more : (P : ℕ → Type 0) (bytes : List ℕ) (i : ℕ) → i < length bytes → AllByRecursion P (take i bytes) → P (get_or bytes i 0) → AllByRecursion P (take (i + 1) bytes)
all_more P [] i inside all next = absurd (omega (arith, inside))
all_more P (b ∷ bytes) zero inside all next = (next, tt)
all_more P (b ∷ bytes) (suc i) inside all next =
    let rest : AllByRecursion P (take (suc i) bytes) = rw (← add-one i) (all_more P bytes i (omega (arith, inside)) all.1 next) in
    rw add-one (all.0, rest)

-- the number so far with the next byte's bits at their power is below 2 ^ 32
counts_within : (i n d : ℕ) → i ≤ 4 → n < 2 ^ (7 * i) → d < 128 → (i ≡ 4 → d < 16) → n + d * 2 ^ (7 * i) < 2 ^ 32
counts_within zero n d few small bits last = omega (arith, small, bits)
counts_within (suc zero) n d few small bits last = omega (arith, small, bits)
counts_within (suc (suc zero)) n d few small bits last = omega (arith, small, bits)
counts_within (suc (suc (suc zero))) n d few small bits last = omega (arith, small, bits)
counts_within (suc (suc (suc (suc zero)))) n d few small bits last = omega (arith, small, last refl)
counts_within (suc (suc (suc (suc (suc i))))) n d few small bits last = absurd (omega (arith, few))

-- A byte's bits, shifted to their power, fit in 32 bits: none of them is lost.
pub whole_bits : (i n d : ℕ) → i ≤ 4 → n < 2 ^ (7 * i) → d < 128 → (i ≡ 4 → d < 16) → (d * 2 ^ (7 * i)) % 4294967296 ≡ d * 2 ^ (7 * i)
whole_bits i n d few small bits last = mod-eq_of_lt (omega (arith, counts_within i n d few small bits last))

-- The number so far with the next byte's bits fits in 32 bits.
pub number_fits : (i n d : ℕ) → i ≤ 4 → n < 2 ^ (7 * i) → d < 128 → (i ≡ 4 → d < 16) → n + (d * 2 ^ (7 * i)) % 4294967296 < 2 ^ 32
number_fits i n d few small bits last = rw (whole_bits i n d few small bits last) (counts_within i n d few small bits last)

-- the power of the next place is 128 times that of this place
next_power : (i : ℕ) → 2 ^ (7 * (i + 1)) ≡ 128 * 2 ^ (7 * i)
next_power i = let e : 7 * (i + 1) ≡ 7 + 7 * i = omega arith in ap (λ (k : ℕ). 2 ^ k) e ∙ pow-add 2 7 (7 * i)

-- The number so far with the next byte's bits is below the power of the next place.
pub bits_below : (i n d : ℕ) → i ≤ 4 → n < 2 ^ (7 * i) → d < 128 → (i ≡ 4 → d < 16) → n + (d * 2 ^ (7 * i)) % 4294967296 < 2 ^ (7 * (i + 1))
bits_below i n d few small bits last =
    let bits_most : d ≤ 127 = omega arith in
    let most : 2 ^ (7 * i) * d ≤ 2 ^ (7 * i) * 127 = mul-le-mul_left (2 ^ (7 * i)) bits_most in
    omega (arith, whole_bits i n d few small bits last, most, small, next_power i)

-- followed by a spelling of any m above 0, these bytes spell n + power * m
abbrev pub SpellsWithRest : List ℕ → ℕ → ℕ → Type 0
SpellsWithRest front n power = (m : ℕ) (rest : List ℕ) → 0 < m → IsVarint rest m → IsVarint (front ++ rest) (n + power * m)

-- `SpellsWithRest` stays true with one more byte that says that another follows: its bits join n, and the power is the
-- next.
pub spelled_more : (bytes : List ℕ) (i n : ℕ) → i < length bytes → i ≤ 4 → n < 2 ^ (7 * i) → (i ≡ 4 → get_or bytes i 0 < 16) → 128 ≤ get_or bytes i 0 → get_or bytes i 0 < 256
    → SpellsWithRest (take i bytes) n (2 ^ (7 * i)) → SpellsWithRest (take (i + 1) bytes) (n + (get_or bytes i 0 % 128 * 2 ^ (7 * i)) % 4294967296) (2 ^ (7 * (i + 1)))
spelled_more bytes i n inside few small last goes fits so_far m rest some is =
    let b = get_or bytes i 0 in
    let p = 2 ^ (7 * i) in
    let whole = whole_bits i n (b % 128) few small (omega arith) (λ e. omega (arith, last e)) in
    let spelled : IsVarint (b ∷ rest) ((b - 128) + 128 * m) = in_front b m ((b - 128) + 128 * m) rest goes fits some (omega (arith, goes)) is in
    let longer = so_far ((b - 128) + 128 * m) (b ∷ rest) (omega (arith, some)) spelled in
    let low : b % 128 ≡ b - 128 = omega (arith, goes, fits) in
    let sum : n + p * ((b - 128) + 128 * m) ≡ n + (b - 128) * p + 128 * p * m = grind arith in
    let number : n + p * ((b - 128) + 128 * m) ≡ n + (b % 128 * p) % 4294967296 + 2 ^ (7 * (i + 1)) * m = rw (whole, low, next_power i) sum in
    let front : take i bytes ++ b ∷ rest ≡ take (i + 1) bytes ++ rest = rw (take_more bytes i 0 inside, append_assoc) refl in
    subst (λ (l : List ℕ). IsVarint l (n + (b % 128 * p) % 4294967296 + 2 ^ (7 * (i + 1)) * m)) front (subst (IsVarint (take i bytes ++ b ∷ rest)) number longer)

-- With one more byte, the last, the bytes spell the number so far with the last byte's bits.
pub spelled_last : (bytes : List ℕ) (i n : ℕ) → i < length bytes → i ≤ 4 → n < 2 ^ (7 * i) → (i ≡ 4 → get_or bytes i 0 < 16) → 0 < get_or bytes i 0 → get_or bytes i 0 < 128
    → SpellsWithRest (take i bytes) n (2 ^ (7 * i)) → IsVarint (take (i + 1) bytes) (n + (get_or bytes i 0 % 128 * 2 ^ (7 * i)) % 4294967296)
spelled_last bytes i n inside few small last some ends so_far =
    let b = get_or bytes i 0 in
    let p = 2 ^ (7 * i) in
    let whole = whole_bits i n (b % 128) few small (omega arith) (λ e. omega (arith, last e)) in
    let longer = so_far b (b ∷ []) some (ends, refl) in
    let low : b % 128 ≡ b = omega (arith, ends) in
    let product : n + p * b ≡ n + b * p = grind arith in
    let number : n + p * b ≡ n + (b % 128 * p) % 4294967296 = rw (whole, low) product in
    rw (take_more bytes i 0 inside) (subst (IsVarint (take i bytes ++ b ∷ [])) number longer)
