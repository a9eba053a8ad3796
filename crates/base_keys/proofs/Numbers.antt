-- Bytes that are compared as numbers, the highest byte first.
use Rattle.std.proofs.Common.{◌≡◌, ℕ, zero, suc, ◌+◌, ◌*◌, ◌<◌, ◌≤◌, List, [], ◌∷◌, length, get_or, take, drop, refl, sym, ◌∙◌, ap, subst, arith}
use Rattle.std.proofs.lemmas.List.{get_or-drop, length-drop, drop_all}
use Rattle.std.specs.Cmp.{ranks}
use Rattle.std.specs.Ordering.{nat_cmp, ordering_then, MatchOrdering}
use Rattle.std.specs.Slice.Scan.{big_endian}
use Rattle.std.specs.declared.cmp.Ordering.{Ordering}
use Rattle.std.specs.declared.cmp.Ordering.TheVariants.{Less, Equal, Greater}
use Rattle.model_base.specs.Map.{byte_order}
use lib.Lanes.{chunk}

abbrev pub Bytes : List ℕ → Type 0
Bytes xs = (k : ℕ) → get_or xs k 0 < 256

is_less : (x y : ℕ) (r : Ordering) → MatchOrdering r (x < y) (x ≡ y) (y < x) → x < y → r ≡ Less
is_less x y Less h l = refl
is_less x y Equal h l = absurd (omega (arith, h, l))
is_less x y Greater h l = absurd (omega (arith, h, l))

is_greater : (x y : ℕ) (r : Ordering) → MatchOrdering r (x < y) (x ≡ y) (y < x) → y < x → r ≡ Greater
is_greater x y Less h l = absurd (omega (arith, h, l))
is_greater x y Equal h l = absurd (omega (arith, h, l))
is_greater x y Greater h l = refl

-- a higher first byte outweighs all bytes after it
rises : (n a b : ℕ) (us vs : List ℕ) → n ≤ length us → n ≤ length vs → Bytes us → a < b → big_endian a (take n us) < big_endian b (take n vs)
rises zero a b us vs p q h l = l
rises (suc n) a b [] vs p q h l = absurd (omega arith)
rises (suc n) a b (u ∷ us) [] p q h l = absurd (omega arith)
rises (suc n) a b (u ∷ us) (v ∷ vs) p q h l =
    let small : u < 256 = h 0 in
    rises n (a * 256 + u) (b * 256 + v) us vs (omega arith) (omega arith) (λ k. h (suc k)) (omega arith)

-- the numbers x and y that the first n bytes spell order the lists, if they differ; else the bytes after these do
pub record Spelled (n x y : ℕ) (us vs : List ℕ) : Type 0 where
  pub apart : (x ≡ y → ⊥) → byte_order us vs ≡ nat_cmp x y
  pub alike : x ≡ y → byte_order us vs ≡ byte_order (drop n us) (drop n vs)

spelled_more : (n a u v : ℕ) (us vs : List ℕ) → n ≤ length us → n ≤ length vs → Bytes (u ∷ us) → Bytes (v ∷ vs)
    → Spelled n (big_endian (a * 256 + u) (take n us)) (big_endian (a * 256 + u) (take n vs)) us vs
    → (r : Ordering) → nat_cmp u v ≡ r → MatchOrdering r (u < v) (u ≡ v) (v < u)
    → Spelled (suc n) (big_endian (a * 256 + u) (take n us)) (big_endian (a * 256 + v) (take n vs)) (u ∷ us) (v ∷ vs)
spelled_more n a u v us vs p q g h rest Less e l =
    let t = rises n (a * 256 + u) (a * 256 + v) us vs p q (λ k. g (suc k)) (omega (arith, l)) in
    record { apart = λ _. ap (λ (r : Ordering). ordering_then r (byte_order us vs)) e ∙ sym (is_less (big_endian (a * 256 + u) (take n us)) (big_endian (a * 256 + v) (take n vs)) _ (ranks (big_endian (a * 256 + u) (take n us)) (big_endian (a * 256 + v) (take n vs))) t); alike = λ s. absurd (omega (arith, s, t)) }
spelled_more n a u v us vs p q g h rest Greater e l =
    let t = rises n (a * 256 + v) (a * 256 + u) vs us q p (λ k. h (suc k)) (omega (arith, l)) in
    record { apart = λ _. ap (λ (r : Ordering). ordering_then r (byte_order us vs)) e ∙ sym (is_greater (big_endian (a * 256 + u) (take n us)) (big_endian (a * 256 + v) (take n vs)) _ (ranks (big_endian (a * 256 + u) (take n us)) (big_endian (a * 256 + v) (take n vs))) t); alike = λ s. absurd (omega (arith, s, t)) }
spelled_more n a u v us vs p q g h rest Equal e l =
    let t = subst (λ z. Spelled n (big_endian (a * 256 + u) (take n us)) (big_endian (a * 256 + z) (take n vs)) us vs) l rest in
    let first = ap (λ (r : Ordering). ordering_then r (byte_order us vs)) e in
    record { apart = λ f. first ∙ t.apart f; alike = λ s. first ∙ t.alike s }

pub spelled : (n a : ℕ) (us vs : List ℕ) → n ≤ length us → n ≤ length vs → Bytes us → Bytes vs → Spelled n (big_endian a (take n us)) (big_endian a (take n vs)) us vs
spelled zero a us vs p q g h = record { apart = λ f. absurd (f refl); alike = λ _. refl }
spelled (suc n) a [] vs p q g h = absurd (omega arith)
spelled (suc n) a (u ∷ us) [] p q g h = absurd (omega arith)
spelled (suc n) a (u ∷ us) (v ∷ vs) p q g h =
    spelled_more n a u v us vs (omega arith) (omega arith) g h (spelled n (a * 256 + u) us vs (omega arith) (omega arith) (λ k. g (suc k)) (λ k. h (suc k))) (nat_cmp u v) refl (ranks u v)

none : (xs : List ℕ) → length xs ≡ 16 → drop 8 (drop 8 xs) ≡ []
none xs len = drop_all 8 (drop 8 xs) (omega (arith, length-drop 8 xs))

module _ (us vs : List ℕ) (p : length us ≡ 16) (q : length vs ≡ 16) (g : Bytes us) (h : Bytes vs) (x y : ℕ) (x_is : x ≡ big_endian 0 (chunk 0 8 us)) (y_is : y ≡ big_endian 0 (chunk 0 8 vs)) where
  high : Spelled 8 x y us vs
  high = subst (λ z. Spelled 8 z y us vs) (sym x_is) (subst (λ z. Spelled 8 (big_endian 0 (chunk 0 8 us)) z us vs) (sym y_is) (spelled 8 0 us vs (omega arith) (omega arith) g h))

  -- the first eight of sixteen bytes order them, if they differ
  pub by_high : (x ≡ y → ⊥) → nat_cmp x y ≡ byte_order us vs
  by_high differ = sym (high.apart differ)

  -- else the last eight do
  pub by_low : (z w : ℕ) → x ≡ y → z ≡ big_endian 0 (chunk 8 8 us) → w ≡ big_endian 0 (chunk 8 8 vs) → nat_cmp z w ≡ byte_order us vs
  by_low z w same z_is w_is = by (nat_cmp z w) refl (ranks z w)
    where
      low : Spelled 8 z w (drop 8 us) (drop 8 vs)
      low = subst (λ n. Spelled 8 n w (drop 8 us) (drop 8 vs)) (sym z_is)
          (subst (λ n. Spelled 8 (big_endian 0 (chunk 8 8 us)) n (drop 8 us) (drop 8 vs)) (sym w_is)
          (spelled 8 0 (drop 8 us) (drop 8 vs) (omega (arith, length-drop 8 us)) (omega (arith, length-drop 8 vs))
          (λ k. subst (λ n. n < 256) (sym (get_or-drop 8 us k 0)) (g (8 + k))) (λ k. subst (λ n. n < 256) (sym (get_or-drop 8 vs k 0)) (h (8 + k)))))

      by : (r : Ordering) → nat_cmp z w ≡ r → MatchOrdering r (z < w) (z ≡ w) (w < z) → r ≡ byte_order us vs
      by Less e l = sym e ∙ sym (high.alike same ∙ low.apart (λ s. omega (arith, s, l)))
      by Greater e l = sym e ∙ sym (high.alike same ∙ low.apart (λ s. omega (arith, s, l)))
      by Equal e l = sym (high.alike same ∙ low.alike l ∙ ap (λ (rest : List ℕ). byte_order rest (drop 8 (drop 8 vs))) (none us p) ∙ ap (byte_order []) (none vs q))
