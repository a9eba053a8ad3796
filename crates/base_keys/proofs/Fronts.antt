-- The first bytes of lists, filled up with zeros if a list is shorter: if these differ, the lists compare as they do.
use Rattle.std.proofs.Common.{◌≡◌, ℕ, zero, suc, ◌<◌, List, [], ◌∷◌, refl, sym, ◌∙◌, ap, arith}
use Rattle.std.specs.Cmp.{ranks}
use Rattle.std.specs.Ordering.{nat_cmp, ordering_then, MatchOrdering}
use Rattle.std.specs.declared.cmp.Ordering.{Ordering}
use Rattle.std.specs.declared.cmp.Ordering.TheVariants.{Less, Equal, Greater}
use Rattle.model_base.specs.Map.{byte_order}
use Rattle.base_keys.specs.Fronts.{front_of}

number_same : (x : ℕ) (r : Ordering) → MatchOrdering r (x < x) (x ≡ x) (x < x) → r ≡ Equal
number_same x Less h = absurd (omega (arith, h))
number_same x Equal h = refl
number_same x Greater h = absurd (omega (arith, h))

same : (xs : List ℕ) → byte_order xs xs ≡ Equal
same [] = refl
same (x ∷ xs) = ap (λ (r : Ordering). ordering_then r (byte_order xs xs)) (number_same x (nat_cmp x x) (ranks x x)) ∙ same xs

-- the first bytes order the lists, if they differ
abbrev Decide : Ordering → Ordering → Type 0
Decide lists fronts = (fronts ≡ Equal → ⊥) → lists ≡ fronts

-- with one byte more before both lists
more : (r lists fronts : Ordering) → Decide lists fronts → Decide (ordering_then r lists) (ordering_then r fronts)
more Less lists fronts d = λ apart. refl
more Equal lists fronts d = d
more Greater lists fronts d = λ apart. refl

-- a zero takes the place of a byte that the first list doesn't have
more_below : (y : ℕ) (r fronts : Ordering) → MatchOrdering r (0 < y) (0 ≡ y) (y < 0) → Decide Less fronts → Decide Less (ordering_then r fronts)
more_below y Less fronts h d = λ apart. refl
more_below y Equal fronts h d = d
more_below y Greater fronts h d = absurd (omega (arith, h))

-- a zero takes the place of a byte that the second list doesn't have
more_above : (x : ℕ) (r fronts : Ordering) → MatchOrdering r (x < 0) (x ≡ 0) (0 < x) → Decide Greater fronts → Decide Greater (ordering_then r fronts)
more_above x Less fronts h d = absurd (omega (arith, h))
more_above x Equal fronts h d = d
more_above x Greater fronts h d = λ apart. refl

-- no front is below a front of zeros
least : (n : ℕ) (ys : List ℕ) → Decide Less (byte_order (front_of n []) (front_of n ys))
least zero ys = λ apart. absurd (apart refl)
least (suc n) [] = λ apart. absurd (apart (same (0 ∷ front_of n [])))
least (suc n) (y ∷ ys) = more_below y (nat_cmp 0 y) (byte_order (front_of n []) (front_of n ys)) (ranks 0 y) (least n ys)

greatest : (n : ℕ) (xs : List ℕ) → Decide Greater (byte_order (front_of n xs) (front_of n []))
greatest zero xs = λ apart. absurd (apart refl)
greatest (suc n) [] = λ apart. absurd (apart (same (0 ∷ front_of n [])))
greatest (suc n) (x ∷ xs) = more_above x (nat_cmp x 0) (byte_order (front_of n xs) (front_of n [])) (ranks x 0) (greatest n xs)

decide : (n : ℕ) (xs ys : List ℕ) → Decide (byte_order xs ys) (byte_order (front_of n xs) (front_of n ys))
decide zero xs ys = λ apart. absurd (apart refl)
decide (suc n) [] [] = λ apart. absurd (apart (same (0 ∷ front_of n [])))
decide (suc n) [] (y ∷ ys) = least (suc n) (y ∷ ys)
decide (suc n) (x ∷ xs) [] = greatest (suc n) (x ∷ xs)
decide (suc n) (x ∷ xs) (y ∷ ys) = more (nat_cmp x y) (byte_order xs ys) (byte_order (front_of n xs) (front_of n ys)) (decide n xs ys)

-- If the first bytes differ, they order the lists.
pub ordered_by_fronts : (n : ℕ) (xs ys us vs : List ℕ) (r : Ordering) → front_of n xs ≡ us → front_of n ys ≡ vs → r ≡ byte_order us vs → (r ≡ Equal → ⊥) → r ≡ byte_order xs ys
ordered_by_fronts n xs ys us vs r u v order differ =
    let fronts : r ≡ byte_order (front_of n xs) (front_of n ys) = order ∙ ap (byte_order us) (sym v) ∙ ap (λ (l : List ℕ). byte_order l (front_of n ys)) (sym u) in
    fronts ∙ sym (decide n xs ys (λ e. differ (fronts ∙ e)))
