-- The entries at sorted places.
use Rattle.std.specs.Prelude.{Some, slice_get}
use Rattle.std.specs.List.Sorted.{IsNonDecreasingBy, IsPermutation}
use Rattle.std.specs.Option.{option_map}
use Rattle.std.proofs.Common.{◌≡◌, ℕ, ◌+◌, ◌-◌, ◌<◌, ◌≤◌, ◌==◌, cond, Bool, true, false, List, [], ◌∷◌, length, map, filter, get_or, refl, ap, sym, ◌∙◌, subst, arith}
use Rattle.std.proofs.lemmas.List.{get_or-map, length-map}
use Rattle.std.proofs.lemmas.List.Elements.{All-head, All-tail}
use Rattle.std.proofs.lemmas.List.Sorted.{All-permutation}
use Rattle.std.proofs.lemmas.Option.{slice_get-map, slice_get_read, slice_get-get_or, get_or_from_slice_get, same_Some}
use Rattle.log_batch.specs.Contents.{Contents}
use Rattle.run_outcome.specs.declared.history_entry.HistoryEntry.{HistoryEntry}
use Rattle.run_batches.specs.declared.accepted.AcceptedBatch.{AcceptedBatch}
use Rattle.run_outcome.specs.declared.places.BatchPlace.{BatchPlace}
use Rattle.run_outcome.specs.Histories.{entry_of, entries_of, entries_of_all}
use Rattle.run_outcome.specs.Places.{no_batch, places_by, entry_at, entries_at, IsPlace, ArePlaces}
use Rattle.run_outcome.proofs.Entries.{entries_of-at}
use Rattle.run_outcome.proofs.PlacesOfAll.{all_entries, all_places}

-- a place where there is no batch
abbrev pub none : ℕ → BatchPlace
none first = record { first = first; client = 0; at = 0 }

-- one step of filtering what a function gives
both : {A B : Type 0} (f : A → B) (b : Bool) (x : A) (xs : List B) (ys : List A) → xs ≡ map f ys → cond b (f x ∷ xs) xs ≡ map f (cond b (x ∷ ys) ys)
both f true x xs ys h = ap (λ zs. f x ∷ zs) h
both f false x xs ys h = h

module _ (lists : List (List (AcceptedBatch Contents))) where
  -- entries with the same first sequence are those at the places with that first sequence
  filtered : (k : ℕ) (places : List BatchPlace) → ArePlaces lists places
      → filter (λ (e : HistoryEntry Contents). e.run.first == k) (entries_at lists places) ≡ entries_at lists (filter (λ (p : BatchPlace). p.first == k) places)
  filtered k [] are = refl
  filtered k (p ∷ places) are =
      let rest = filtered k places (All-tail (IsPlace lists) p places are) in
      let is : (entry_at lists p).run.first ≡ p.first = sym (All-head (IsPlace lists) p places are).first in
      let others = filter (λ (e : HistoryEntry Contents). e.run.first == k) (entries_at lists places) in
      ap (λ (n : ℕ). cond (n == k) (entry_at lists p ∷ others) others) is
      ∙ both (entry_at lists) (p.first == k) p others (filter (λ (q : BatchPlace). q.first == k) places) rest

  first_at : (order : List BatchPlace) → ArePlaces lists order → (i : ℕ) (d : HistoryEntry Contents) → i < length order → (get_or (entries_at lists order) i d).run.first ≡ (get_or order i (none 0)).first
  first_at order are i d h = ap (λ (e : HistoryEntry Contents). e.run.first) (get_or-map (entry_at lists) order i (none 0) d h) ∙ sym (are i (none 0) h).first

  rises : (order : List BatchPlace) → ArePlaces lists order → IsNonDecreasingBy (λ (p : BatchPlace). p.first) order → IsNonDecreasingBy (λ (e : HistoryEntry Contents). e.run.first) (entries_at lists order)
  rises order are up i j d le less =
      let inside : j < length order = subst (λ (n : ℕ). j < n) (length-map order (entry_at lists)) less in
      let at_i = first_at order are i d (omega arith) in
      let at_j = first_at order are j d inside in
      let below : (get_or order i (none 0)).first ≤ (get_or order j (none 0)).first = up i j (none 0) le inside in
      omega arith

  -- the places of all clients' batches, sorted
  module _ (places order : List BatchPlace) (all : places ≡ places_by 1 lists) (moved : IsPermutation places order) where
    before : ArePlaces lists places
    before = subst (ArePlaces lists) (sym all) (all_places lists)

    pub are_places : ArePlaces lists order
    are_places = All-permutation (IsPlace lists) places order moved before

    pub merged_rise : IsNonDecreasingBy (λ (p : BatchPlace). p.first) order → IsNonDecreasingBy (λ (e : HistoryEntry Contents). e.run.first) (entries_at lists order)
    merged_rise up = rises order are_places up

    pub merged_keep : (k : ℕ) → filter (λ (p : BatchPlace). p.first == k) order ≡ filter (λ (p : BatchPlace). p.first == k) places
        → filter (λ (e : HistoryEntry Contents). e.run.first == k) (entries_at lists order) ≡ filter (λ (e : HistoryEntry Contents). e.run.first == k) (entries_of_all lists)
    merged_keep k stable =
        filtered k order are_places
        ∙ (ap (entries_at lists) stable
        ∙ (sym (filtered k places before)
        ∙ ap (filter (λ (e : HistoryEntry Contents). e.run.first == k)) (ap (entries_at lists) all ∙ all_entries lists)))

  -- the entry at a place of the order
  pub merged_at : (order : List BatchPlace) → ArePlaces lists order → (at : ℕ) (place : BatchPlace) (list : List (AcceptedBatch Contents)) (e : HistoryEntry Contents) → at < length (entries_at lists order)
      → place ≡ get_or order at place → list ≡ get_or lists (place.client - 1) list → slice_get (entries_of place.client list) place.at ≡ Some e → slice_get (entries_at lists order) at ≡ Some e
  merged_at order are at place list e less place_is list_is found =
      let inside : at < length order = subst (λ (n : ℕ). at < n) (length-map order (entry_at lists)) less in
      let p : IsPlace lists place = subst (IsPlace lists) (sym place_is) (are at place inside) in
      let numbered = p.numbered in
      let known = p.client in
      let own : get_or lists (place.client - 1) [] ≡ list = get_or_from_slice_get lists (place.client - 1) list [] (slice_get_read lists (length lists) (place.client - 1) list refl (omega arith) list_is) in
      let within : place.at < length list = subst (λ (l : List (AcceptedBatch Contents)). place.at < length l) own p.within in
      let here = slice_get-get_or list place.at no_batch within in
      let is : entry_of place.client (place.at + 1) (get_or list place.at no_batch) ≡ e = same_Some _ _ (sym (entries_of-at place.client list place.at (get_or list place.at no_batch) here) ∙ found) in
      slice_get-map (entry_at lists) order at
      ∙ ap (option_map (entry_at lists)) (slice_get_read order (length order) at place refl inside place_is)
      ∙ ap Some (ap (λ (l : List (AcceptedBatch Contents)). entry_of place.client (place.at + 1) (get_or l place.at no_batch)) own ∙ is)
