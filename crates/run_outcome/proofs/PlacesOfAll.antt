-- At the places of all clients' batches there are batches (`IsPlace`), and the entries there are those of the clients
-- one after another.
use Rattle.std.specs.Prelude.{Some, slice_get}
use Rattle.std.proofs.Common.{◌≡◌, ℕ, suc, ◌+◌, ◌-◌, ◌<◌, ◌≤◌, List, [], ◌∷◌, ◌++◌, length, get_or, refl, ap, sym, ◌∙◌, subst, arith}
use Rattle.std.proofs.lemmas.List.{map-append}
use Rattle.std.proofs.lemmas.List.Elements.{All-nil, All-cons, All-append}
use Rattle.std.proofs.lemmas.Option.{slice_get_within, get_or_from_slice_get}
use Rattle.log_batch.specs.Contents.{Contents}
use Rattle.run_outcome.specs.declared.history_entry.HistoryEntry.{HistoryEntry}
use Rattle.run_batches.specs.declared.accepted.AcceptedBatch.{AcceptedBatch}
use Rattle.run_outcome.specs.declared.places.BatchPlace.{BatchPlace}
use Rattle.run_outcome.specs.Histories.{entry_of, entries_from, entries_of, entries_by, entries_of_all}
use Rattle.run_outcome.specs.Places.{no_batch, places_from, places_by, kept_at, entry_at, entries_at, IsPlace, ArePlaces}

abbrev place_of : ℕ → ℕ → AcceptedBatch Contents → BatchPlace
place_of client at kept = record { first = kept.batch.sequence; client = client; at = at }

module _ (lists : List (List (AcceptedBatch Contents))) where
  -- a batch of a client's list
  module _ (client : ℕ) (numbered : 1 ≤ client) (list : List (AcceptedBatch Contents)) (own : slice_get lists (client - 1) ≡ Some list) where
    its_list : get_or lists (client - 1) [] ≡ list
    its_list = get_or_from_slice_get lists (client - 1) list [] own

    found : (at : ℕ) (kept : AcceptedBatch Contents) → slice_get list at ≡ Some kept → kept_at lists (place_of client at kept) ≡ kept
    found at kept here =
        ap (λ (l : List (AcceptedBatch Contents)). get_or l at no_batch) its_list ∙ get_or_from_slice_get list at kept no_batch here

    is_place : (at : ℕ) (kept : AcceptedBatch Contents) → slice_get list at ≡ Some kept → IsPlace lists (place_of client at kept)
    is_place at kept here =
        let known : client - 1 < length lists = slice_get_within lists (client - 1) list own in
        record {
          numbered = numbered;
          client = omega arith;
          within = subst (λ (l : List (AcceptedBatch Contents)). at < length l) (sym its_list) (slice_get_within list at kept here);
          first = ap (λ (k : AcceptedBatch Contents). k.batch.sequence) (sym (found at kept here));
        }

    -- the batches of a client's list from this place on
    module _ (at : ℕ) (kept : AcceptedBatch Contents) (rest : List (AcceptedBatch Contents)) (each : (k : ℕ) (x : AcceptedBatch Contents) → slice_get (kept ∷ rest) k ≡ Some x → slice_get list (at + k) ≡ Some x) where
      here : slice_get list at ≡ Some kept
      here = let same : at + 0 ≡ at = omega arith in subst (λ (n : ℕ). slice_get list n ≡ Some kept) same (each 0 kept refl)

      behind : (k : ℕ) (x : AcceptedBatch Contents) → slice_get rest k ≡ Some x → slice_get list (at + 1 + k) ≡ Some x
      behind k x h = let same : at + suc k ≡ at + 1 + k = omega arith in subst (λ (n : ℕ). slice_get list n ≡ Some x) same (each (suc k) x h)

    entries_from_are : (at : ℕ) (rest : List (AcceptedBatch Contents)) → ((k : ℕ) (x : AcceptedBatch Contents) → slice_get rest k ≡ Some x → slice_get list (at + k) ≡ Some x)
        → entries_at lists (places_from client at rest) ≡ entries_from client (at + 1) rest
    entries_from_are at [] each = refl
    entries_from_are at (kept ∷ rest) each =
        ap (λ (k : AcceptedBatch Contents). entry_of client (at + 1) k ∷ entries_at lists (places_from client (at + 1) rest)) (found at kept (here at kept rest each))
        ∙ ap (λ (es : List (HistoryEntry Contents)). entry_of client (at + 1) kept ∷ es) (entries_from_are (at + 1) rest (behind at kept rest each))

    places_from_are : (at : ℕ) (rest : List (AcceptedBatch Contents)) → ((k : ℕ) (x : AcceptedBatch Contents) → slice_get rest k ≡ Some x → slice_get list (at + k) ≡ Some x)
        → ArePlaces lists (places_from client at rest)
    places_from_are at [] each = All-nil (IsPlace lists)
    places_from_are at (kept ∷ rest) each =
        All-cons (IsPlace lists) (place_of client at kept) (places_from client (at + 1) rest) (is_place at kept (here at kept rest each)) (places_from_are (at + 1) rest (behind at kept rest each))

    whole : (k : ℕ) (x : AcceptedBatch Contents) → slice_get list k ≡ Some x → slice_get list (0 + k) ≡ Some x
    whole k x h = let same : k ≡ 0 + k = omega arith in subst (λ (n : ℕ). slice_get list n ≡ Some x) same h

  -- the batches of the clients from this one on
  module _ (client : ℕ) (numbered : 1 ≤ client) (list : List (AcceptedBatch Contents)) (others : List (List (AcceptedBatch Contents)))
      (each : (k : ℕ) (l : List (AcceptedBatch Contents)) → slice_get (list ∷ others) k ≡ Some l → slice_get lists (client + k - 1) ≡ Some l) where
    this : slice_get lists (client - 1) ≡ Some list
    this = let same : client + 0 - 1 ≡ client - 1 = omega arith in subst (λ (n : ℕ). slice_get lists n ≡ Some list) same (each 0 list refl)

    next : (k : ℕ) (l : List (AcceptedBatch Contents)) → slice_get others k ≡ Some l → slice_get lists (client + 1 + k - 1) ≡ Some l
    next k l h = let same : client + suc k - 1 ≡ client + 1 + k - 1 = omega arith in subst (λ (n : ℕ). slice_get lists n ≡ Some l) same (each (suc k) l h)

  entries_by_are : (client : ℕ) (others : List (List (AcceptedBatch Contents))) → 1 ≤ client → ((k : ℕ) (l : List (AcceptedBatch Contents)) → slice_get others k ≡ Some l → slice_get lists (client + k - 1) ≡ Some l)
      → entries_at lists (places_by client others) ≡ entries_by client others
  entries_by_are client [] numbered each = refl
  entries_by_are client (list ∷ others) numbered each =
      map-append (entry_at lists) (places_from client 0 list) (places_by (client + 1) others)
      ∙ (ap (λ (es : List (HistoryEntry Contents)). es ++ entries_at lists (places_by (client + 1) others))
      (entries_from_are client numbered list (this client numbered list others each) 0 list (whole client numbered list (this client numbered list others each)))
      ∙ ap (λ (es : List (HistoryEntry Contents)). entries_of client list ++ es) (entries_by_are (client + 1) others (omega arith) (next client numbered list others each)))

  places_by_are : (client : ℕ) (others : List (List (AcceptedBatch Contents))) → 1 ≤ client → ((k : ℕ) (l : List (AcceptedBatch Contents)) → slice_get others k ≡ Some l → slice_get lists (client + k - 1) ≡ Some l)
      → ArePlaces lists (places_by client others)
  places_by_are client [] numbered each = All-nil (IsPlace lists)
  places_by_are client (list ∷ others) numbered each =
      All-append (IsPlace lists) (places_from client 0 list) (places_by (client + 1) others)
      (places_from_are client numbered list (this client numbered list others each) 0 list (whole client numbered list (this client numbered list others each)))
      (places_by_are (client + 1) others (omega arith) (next client numbered list others each))

  from_first : (k : ℕ) (l : List (AcceptedBatch Contents)) → slice_get lists k ≡ Some l → slice_get lists (1 + k - 1) ≡ Some l
  from_first k l h = let same : k ≡ 1 + k - 1 = omega arith in subst (λ (n : ℕ). slice_get lists n ≡ Some l) same h

  pub all_entries : entries_at lists (places_by 1 lists) ≡ entries_of_all lists
  all_entries = entries_by_are 1 lists (omega arith) from_first

  pub all_places : ArePlaces lists (places_by 1 lists)
  all_places = places_by_are 1 lists (omega arith) from_first
