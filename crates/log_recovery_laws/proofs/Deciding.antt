-- For any kinds of fragments it is decided whether they begin a record, and whether they are a whole one.
use Rattle.std.proofs.Common.{◌≡◌, ◌⊎◌, inl, inr, ⊎_elim, List, [], ◌∷◌, refl}
use Rattle.std.specs.List.{AllByRecursion}
use Rattle.model_base.specs.Log.{Kind, full, first, middle, last, GoesToLast, AreOneRecord}
use Rattle.model_base.specs.Reading.{AreBegun}

abbrev pub Decided : Type 0 → Type 0
Decided P = P ⊎ (P → ⊥)

are_middles : (kinds : List Kind) → Decided (AllByRecursion (λ k. k ≡ middle) kinds)
are_middles [] = inl tt
are_middles (middle ∷ kinds) = ⊎_elim (λ all. inl (refl, all)) (λ none. inr (λ all. none all.1)) (are_middles kinds)
are_middles (full ∷ kinds) = inr (λ all. let wrong : full ≡ middle = all.0 in cc)
are_middles (first ∷ kinds) = inr (λ all. let wrong : first ≡ middle = all.0 in cc)
are_middles (last ∷ kinds) = inr (λ all. let wrong : last ≡ middle = all.0 in cc)

pub are_begun : (kinds : List Kind) → Decided (AreBegun kinds)
are_begun [] = inl tt
are_begun (first ∷ kinds) = are_middles kinds
are_begun (full ∷ kinds) = inr (λ none. none)
are_begun (middle ∷ kinds) = inr (λ none. none)
are_begun (last ∷ kinds) = inr (λ none. none)

is_empty : (kinds : List Kind) → Decided (kinds ≡ [])
is_empty [] = inl refl
is_empty (k ∷ kinds) = inr (λ e. cc)

go_to_last : (kinds : List Kind) → Decided (GoesToLast kinds)
go_to_last [] = inr (λ none. none)
go_to_last (middle ∷ kinds) = go_to_last kinds
go_to_last (last ∷ kinds) = is_empty kinds
go_to_last (full ∷ kinds) = inr (λ none. none)
go_to_last (first ∷ kinds) = inr (λ none. none)

pub are_one : (kinds : List Kind) → Decided (AreOneRecord kinds)
are_one [] = inr (λ none. none)
are_one (full ∷ kinds) = is_empty kinds
are_one (first ∷ kinds) = go_to_last kinds
are_one (middle ∷ kinds) = inr (λ none. none)
are_one (last ∷ kinds) = inr (λ none. none)
