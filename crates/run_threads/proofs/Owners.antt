-- A list whose elements have owners, taken apart by owner.
use Rattle.std.proofs.Common.{◌≡◌, ℕ, zero, suc, ◌+◌, ◌<◌, ◌≤◌, ◌==◌, List, [], ◌∷◌, ◌++◌, filter, refl, ap, ◌∙◌, arith, inl, inr}
use Rattle.std.specs.List.{AllByRecursion}
use Rattle.std.proofs.lemmas.Bool.{cases_lt}
use Rattle.std.proofs.lemmas.List.Elements.{filter-append}
use Rattle.run_threads.proofs.Fibres.{at, Climbs, SameFibres, one_at, filter_swap, apart, same}

module _ {X : Type 0} (owner : X → ℕ) where
  abbrev pub own : ℕ → List X → List X
  own n xs = filter (λ x. owner x == n) xs

  -- the elements of `n` owners, whose numbers begin after `m`, one owner after the other
  abbrev pub owns : ℕ → ℕ → List X → List X
  owns m zero xs = []
  owns m (suc n) xs = own (m + 1) xs ++ owns (m + 1) n xs

  abbrev pub IsOneOf : ℕ → ℕ → X → Type 0
  IsOneOf m n x = (m < owner x) × (owner x ≤ m + n)

  owns_none : (m n : ℕ) → owns m n [] ≡ []
  owns_none m zero = refl
  owns_none m (suc n) = owns_none (m + 1) n

  owns_below : (m n : ℕ) (x : X) → owner x ≤ m → owns m n (x ∷ []) ≡ []
  owns_below m zero x le = refl
  owns_below m (suc n) x le = rw (apart (owner x) (m + 1) (inl (omega arith))) (owns_below (m + 1) n x (omega arith))

  owns_one : (m n : ℕ) (x : X) → IsOneOf m n x → owns m n (x ∷ []) ≡ x ∷ []
  owns_one m zero x named = absurd (omega arith)
  owns_one m (suc n) x named =
      let over = named.0 in
      let under = named.1 in
      elim (cases_lt (m + 1) (owner x)) [
        | inl above ↦ rw (apart (owner x) (m + 1) (inr above)) (owns_one (m + 1) n x (above, omega arith))
        | inr level ↦ rw (same (owner x) (m + 1) (omega arith)) (ap (λ ys. x ∷ ys) (owns_below (m + 1) n x (omega arith)))
      ]

  at_owns : (key : X → ℕ) (k m n : ℕ) (xs : List X) → at key k (owns m n xs) ≡ owns m n (at key k xs)
  at_owns key k m zero xs = refl
  at_owns key k m (suc n) xs =
      filter-append (λ x. key x == k) (own (m + 1) xs) (owns (m + 1) n xs)
      ∙ (ap (λ ys. ys ++ at key k (owns (m + 1) n xs)) (filter_swap (λ x. key x == k) (λ x. owner x == m + 1) xs) ∙ ap (λ ys. own (m + 1) (at key k xs) ++ ys) (at_owns key k (m + 1) n xs))

  -- all owners' elements, taken together, have the same elements with each key as the whole list
  pub owns_fibres : (key : X → ℕ) (start m n : ℕ) (xs : List X) → Climbs key start xs → AllByRecursion (IsOneOf m n) xs → SameFibres key (owns m n xs) xs
  owns_fibres key start m n xs up named k = at_owns key k m n xs ∙ elim (one_at key (IsOneOf m n) start k xs up named) [
    | inl none ↦ rw none (owns_none m n)
    | inr one ↦ rw one.1 (owns_one m n one.0 one.2)
  ]
