-- What holds of each element of a list, and the element at a place.
use Rattle.std.proofs.Common.{◌≡◌, ℕ, zero, suc, ◌+◌, ◌<◌, List, [], ◌∷◌, ◌++◌, length, map, Some, slice_get, refl, sym, ap, subst, arith}
use Rattle.std.specs.List.{AllByRecursion, range_with_len}

pub some_same : {A : Type 0} {a b : A} → Some a ≡ Some b → a ≡ b
some_same e = cc

module _ {X : Type 0} (P : X → Type 0) where
  pub all_front : (xs ys : List X) → AllByRecursion P (xs ++ ys) → AllByRecursion P xs
  all_front [] ys a = tt
  all_front (x ∷ xs) ys a = (a.0, all_front xs ys a.1)

  pub all_back : (xs ys : List X) → AllByRecursion P (xs ++ ys) → AllByRecursion P ys
  all_back [] ys a = a
  all_back (x ∷ xs) ys a = all_back xs ys a.1

  pub all_both : (xs ys : List X) → AllByRecursion P xs → AllByRecursion P ys → AllByRecursion P (xs ++ ys)
  all_both [] ys a b = b
  all_both (x ∷ xs) ys a b = (a.0, all_both xs ys a.1 b)

  pub all_at : (xs : List X) (i : ℕ) (x : X) → AllByRecursion P xs → slice_get xs i ≡ Some x → P x
  all_at [] i x a there = absurd (cc)
  all_at (y ∷ xs) zero x a there = subst P (some_same there) a.0
  all_at (y ∷ xs) (suc i) x a there = all_at xs i x a.1 there

pub all_mapped : {X : Type 0} (P Q : X → Type 0) → ((x : X) → P x → Q x) → (xs : List X) → AllByRecursion P xs → AllByRecursion Q xs
all_mapped P Q f [] a = tt
all_mapped P Q f (x ∷ xs) a = (f x a.0, all_mapped P Q f xs a.1)

-- a list has an element at each place below its length
pub there_is : {X : Type 0} (xs : List X) (i : ℕ) → i < length xs → (x : X) × (slice_get xs i ≡ Some x)
there_is [] i within = absurd (omega arith)
there_is (x ∷ xs) zero within = (x, refl)
there_is (x ∷ xs) (suc i) within = there_is xs i (omega (arith, within))

-- an element of a list that is made from consecutive numbers
pub made_at : {X : Type 0} (f : ℕ → X) (first n i : ℕ) (x : X) → slice_get (map f (range_with_len first n)) i ≡ Some x → (i < n) × (x ≡ f (first + i))
made_at f first zero i x there = absurd (cc)
made_at f first (suc n) zero x there =
    let same : f first ≡ x = some_same there in let number : first ≡ first + 0 = omega arith in
    (omega arith, subst (λ k. x ≡ f k) number (sym same))
made_at f first (suc n) (suc i) x there =
    let rest = made_at f (first + 1) n i x there in let number : first + 1 + i ≡ first + suc i = omega arith in
    (omega (arith, rest.0), subst (λ k. x ≡ f k) number rest.1)

pub length_made : {X : Type 0} (f : ℕ → X) (first n : ℕ) → length (map f (range_with_len first n)) ≡ n
length_made f first zero = refl
length_made f first (suc n) = ap suc (length_made f (first + 1) n)
