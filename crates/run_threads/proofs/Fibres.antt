-- Lists by a key: a list that rises strictly has at most one element with each key, and a rising list that has the same
-- elements with each key as that list is the same list.
use Rattle.std.proofs.Common.{◌≡◌, ℕ, ◌<◌, ◌≤◌, ◌==◌, cond, Bool, true, false, List, [], ◌∷◌, length, get_or, filter, refl, ap, sym, arith, inl, inr, ◌⊎◌, suc}
use Rattle.std.specs.List.{AllByRecursion}
use Rattle.std.specs.List.Sorted.{IsNonDecreasingBy}
use Rattle.std.proofs.lemmas.Bool.Decides.{nat_tests}
use Rattle.std.proofs.lemmas.Bool.{cases_lt}

-- two filters in either order, at one element, by the results of their tests
swap_at : {X : Type 0} (p q : X → Bool) (x : X) (xs : List X) (b c : Bool) → p x ≡ b → q x ≡ c → filter p (filter q xs) ≡ filter q (filter p xs) → filter p (filter q (x ∷ xs)) ≡ filter q (filter p (x ∷ xs))
swap_at p q x xs true true h k rest = rw (h, k, h) (ap (λ ys. x ∷ ys) rest)
swap_at p q x xs true false h k rest = rw (h, k) rest
swap_at p q x xs false true h k rest = rw (h, k, h) rest
swap_at p q x xs false false h k rest = rw (h, k) rest

-- two filters in either order give the same list
pub filter_swap : {X : Type 0} (p q : X → Bool) (xs : List X) → filter p (filter q xs) ≡ filter q (filter p xs)
filter_swap p q [] = refl
filter_swap p q (x ∷ xs) = swap_at p q x xs (p x) (q x) refl refl (filter_swap p q xs)

pub apart : (a b : ℕ) → (a < b) ⊎ (b < a) → (a == b) ≡ false
apart a b (inl h) = grind (arith, nat_tests)
apart a b (inr h) = grind (arith, nat_tests)

pub same : (a b : ℕ) → a ≡ b → (a == b) ≡ true
same a b h = grind (arith, nat_tests)

module _ {X : Type 0} (key : X → ℕ) where
  -- the elements with a key
  abbrev pub at : ℕ → List X → List X
  at k xs = filter (λ x. key x == k) xs

  -- rising strictly, from above a bound on
  abbrev pub Climbs : ℕ → List X → Type 0
  Climbs low [] = Unit {0}
  Climbs low (x ∷ xs) = (low < key x) × Climbs (key x) xs

  pub climbs_lower : (low high : ℕ) (xs : List X) → low ≤ high → Climbs high xs → Climbs low xs
  climbs_lower low high [] le up = tt
  climbs_lower low high (x ∷ xs) le up = (omega (arith, up.0), up.1)

  none_below : (low k : ℕ) (xs : List X) → Climbs low xs → k ≤ low → at k xs ≡ []
  none_below low k [] up le = refl
  none_below low k (x ∷ xs) up le =
      let over = up.0 in
      let other : (key x == k) ≡ false = apart (key x) k (inr (omega arith)) in
      rw other (none_below (key x) k xs up.1 (omega arith))

  -- a list that rises strictly has at most one element with a key
  pub one_at : (P : X → Type 0) (low k : ℕ) (xs : List X) → Climbs low xs → AllByRecursion P xs → (at k xs ≡ []) ⊎ ((x : X) × (at k xs ≡ x ∷ []) × P x)
  one_at P low k [] up all = inl refl
  one_at P low k (x ∷ xs) up all =
      let rest = one_at P (key x) k xs up.1 all.1 in
      elim (cases_lt (key x) k) [
        | inl below ↦ rw (apart (key x) k (inl below)) rest
        | inr not_below ↦ elim (cases_lt k (key x)) [
          | inl over ↦ rw (apart (key x) k (inr over)) rest
          | inr under ↦ (let here : key x ≡ k = omega arith in
              let none : at k xs ≡ [] = none_below (key x) k xs up.1 (omega arith) in
              inr (x, rw (same (key x) k here, none) refl, all.0))
        ]
      ]

  -- rising, from a bound on
  abbrev Rises : ℕ → List X → Type 0
  Rises low [] = Unit {0}
  Rises low (x ∷ xs) = (low ≤ key x) × Rises (key x) xs

  rises_from : (low : ℕ) (xs : List X) → IsNonDecreasingBy key xs → ((d : X) → 0 < length xs → low ≤ key (get_or xs 0 d)) → Rises low xs
  rises_from low [] up first = tt
  rises_from low (x ∷ xs) up first = (
    first x (omega arith),
    rises_from (key x) xs (λ i j d le lt. up (suc i) (suc j) d (omega arith) (omega arith)) (λ d some. up 0 1 d (omega arith) (omega arith)),
  )

  none_before : (low k : ℕ) (xs : List X) → Rises low xs → k < low → at k xs ≡ []
  none_before low k [] up lt = refl
  none_before low k (x ∷ xs) up lt =
      let le = up.0 in
      rw (apart (key x) k (inr (omega arith))) (none_before (key x) k xs up.1 (omega arith))

  tails_at : (b : Bool) (x : X) (xs ys : List X) → cond b (x ∷ xs) xs ≡ cond b (x ∷ ys) ys → xs ≡ ys
  tails_at true x xs ys h = cc
  tails_at false x xs ys h = h

  -- for each key both lists have the same elements, in the same order
  abbrev pub SameFibres : List X → List X → Type 0
  SameFibres xs ys = (k : ℕ) → at k xs ≡ at k ys

  rising_is : (low start : ℕ) (xs ys : List X) → Rises low xs → Climbs start ys → SameFibres xs ys → xs ≡ ys
  rising_is low start [] [] up is fibres = refl
  rising_is low start [] (y ∷ ys) up is fibres = let f = rw (same (key y) (key y) refl) at (fibres (key y)) in absurd cc
  rising_is low start (x ∷ xs) [] up is fibres = let f = rw (same (key x) (key x) refl) at (fibres (key x)) in absurd cc
  rising_is low start (x ∷ xs) (y ∷ ys) up is fibres =
      let first = is.0 in
      elim (cases_lt (key x) (key y)) [
        | inl below ↦ (let f = rw (same (key x) (key x) refl, apart (key y) (key x) (inr below), none_below (key y) (key x) ys is.1 (omega arith)) at (fibres (key x)) in absurd cc)
        | inr not_below ↦ elim (cases_lt (key y) (key x)) [
          | inl above ↦ (let f = rw (same (key y) (key y) refl, apart (key x) (key y) (inr above), none_before (key x) (key y) xs up.1 above) at (fibres (key y)) in absurd cc)
          | inr not_above ↦ (let level : key x ≡ key y = omega arith in
              let f = rw (same (key x) (key x) refl, same (key y) (key x) (sym level)) at (fibres (key x)) in
              let heads : x ≡ y = cc in
              let rest = rising_is (key x) (key y) xs ys up.1 is.1 (λ k. tails_at (key y == k) y (at k xs) (at k ys) (rw heads at (fibres k))) in
              cc (heads, rest))
        ]
      ]

  -- a sorted list with the elements of one that rises strictly is that list
  pub sorted_is : (start : ℕ) (xs ys : List X) → IsNonDecreasingBy key xs → Climbs start ys → SameFibres xs ys → xs ≡ ys
  sorted_is start xs ys up is fibres = rising_is 0 start xs ys (rises_from 0 xs up (λ d some. omega arith)) is fibres
