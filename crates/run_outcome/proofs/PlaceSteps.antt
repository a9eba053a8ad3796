-- Places that are appended one after another, in the steps of the loops.
use Rattle.std.specs.Prelude.{Some, slice_get}
use Rattle.std.proofs.Common.{◌≡◌, ℕ, ◌+◌, ◌<◌, ◌≤◌, List, [], ◌∷◌, ◌++◌, length, drop, get_or, ap, sym, ◌∙◌, append_assoc}
use Rattle.std.proofs.lemmas.List.{append-nil, at_drop_more, at_drop_all}
use Rattle.std.proofs.lemmas.Option.{slice_get_within, get_or_from_slice_get}
use Rattle.log_batch.specs.Contents.{Contents}
use Rattle.run_batches.specs.declared.accepted.AcceptedBatch.{AcceptedBatch}
use Rattle.run_outcome.specs.declared.places.BatchPlace.{BatchPlace}
use Rattle.run_outcome.specs.Places.{places_from, places_by}

module _ (client : ℕ) (list : List (AcceptedBatch Contents)) (placed all : List BatchPlace) (at : ℕ) (so_far : placed ++ places_from client at (drop at list) ≡ all) where
  -- one more batch
  pub place_more : (kept : AcceptedBatch Contents) (first : ℕ) (more : List BatchPlace) → slice_get list at ≡ Some kept → first ≡ kept.batch.sequence
      → more ≡ placed ++ record { first = first; client = client; at = at } ∷ [] → more ++ places_from client (at + 1) (drop (at + 1) list) ≡ all
  place_more kept first more here begins is =
      let rest = places_from client (at + 1) (drop (at + 1) list) in
      let step : drop at list ≡ kept ∷ drop (at + 1) list =
      at_drop_more (λ (l : List (AcceptedBatch Contents)). l) list at kept (slice_get_within list at kept here) ∙ ap (λ (k : AcceptedBatch Contents). k ∷ drop (at + 1) list) (get_or_from_slice_get list at kept kept here) in
      ap (λ (l : List BatchPlace). l ++ rest) (is ∙ ap (λ (n : ℕ). placed ++ record { first = n; client = client; at = at } ∷ []) begins)
      ∙ (append_assoc placed (record { first = kept.batch.sequence; client = client; at = at } ∷ []) rest
      ∙ (ap (λ (l : List (AcceptedBatch Contents)). placed ++ places_from client at l) (sym step) ∙ so_far))

  pub placed_all : length list ≤ at → placed ≡ all
  placed_all end = sym (append-nil placed) ∙ (ap (λ (l : List (AcceptedBatch Contents)). placed ++ places_from client at l) (sym (at_drop_all (λ (l : List (AcceptedBatch Contents)). l) list at end)) ∙ so_far)

module _ (lists : List (List (AcceptedBatch Contents))) (placed all : List BatchPlace) (index : ℕ) (so_far : placed ++ places_by (index + 1) (drop index lists) ≡ all) where
  -- one more client
  pub client_more : (list : List (AcceptedBatch Contents)) (more : List BatchPlace) → index < length lists → list ≡ get_or lists index list
      → more ≡ placed ++ places_from (index + 1) 0 list → more ++ places_by (index + 1 + 1) (drop (index + 1) lists) ≡ all
  client_more list more here at_index is =
      let rest = places_by (index + 1 + 1) (drop (index + 1) lists) in
      let step : drop index lists ≡ list ∷ drop (index + 1) lists =
      at_drop_more (λ (l : List (List (AcceptedBatch Contents))). l) lists index list here ∙ ap (λ (k : List (AcceptedBatch Contents)). k ∷ drop (index + 1) lists) (sym at_index) in
      ap (λ (l : List BatchPlace). l ++ rest) is
      ∙ (append_assoc placed (places_from (index + 1) 0 list) rest
      ∙ (ap (λ (l : List (List (AcceptedBatch Contents))). placed ++ places_by (index + 1) l) (sym step) ∙ so_far))

  pub clients_all : length lists ≤ index → placed ≡ all
  clients_all end = sym (append-nil placed) ∙ (ap (λ (l : List (List (AcceptedBatch Contents))). placed ++ places_by (index + 1) l) (sym (at_drop_all (λ (l : List (List (AcceptedBatch Contents))). l) lists index end)) ∙ so_far)
