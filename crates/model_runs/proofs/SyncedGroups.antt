-- What recovery finds of the groups that were to be synced.
use Rattle.std.proofs.Common.{◌≡◌, inl, inr, ℕ, ◌+◌, ◌<◌, ◌≤◌, List, ◌++◌, length, map, take, Some, slice_get, ap, sym, ◌∙◌, arith, length-append, length-take}
use Rattle.std.specs.List.{AllByRecursion}
use Rattle.std.proofs.lemmas.Option.{slice_get_cases}
use Rattle.std.proofs.lemmas.List.{length-map}
use Rattle.model_base.specs.Log.{Beginning, SpellsWhole}
use Rattle.model_base.specs.Batch.{IsBatch}
use Rattle.model_base.specs.History.{Entry}
use Rattle.model_base.specs.LogContents.{records_of, record_of_entries}
use Rattle.model_base.specs.Recovery.{Logged, logged_bytes, AreInOrder, Recovered, IsRecovered}
use Rattle.log_laws.specs.Prefixes.{BeginsWith}
use Rattle.log_laws.proofs.Synced.{holds_synced}
use Rattle.log_laws.proofs.Written.{spells_on}
use Rattle.model_runs.specs.Crashes.{HasSync, HoldsSynced, text_through}

pub recovered : (b : Beginning) (kept : List (List ℕ)) (groups : List (List Entry)) (image : List ℕ) (k : ℕ) (group : List Entry) → SpellsWhole b.number b.kept kept → slice_get groups k ≡ Some group
    → BeginsWith (text_through b groups k) image → (batches : List Logged) → map logged_bytes batches ≡ kept ++ records_of (take (k + 1) groups)
    → AllByRecursion (λ b. IsBatch (logged_bytes b) b.first b.records) batches → AreInOrder 0 batches → (r : Recovered) → IsRecovered b.number image r → length kept + k + 1 ≤ length r.batches
recovered b kept groups image k group spells there begins batches same are ordered r is =
    let records : List (List ℕ) = records_of (take (k + 1) groups) in
    let found = holds_synced b.number image (text_through b groups k) (kept ++ records) batches r (spells_on b.number b.kept kept records spells) is begins.0 begins.1 same are ordered in
    let number : length batches ≡ length kept + length (take (k + 1) groups) =
    sym (length-map batches logged_bytes) ∙ ap length same ∙ length-append kept records ∙ ap (λ (n : ℕ). length kept + n) (length-map (take (k + 1) groups) record_of_entries) in
    let taken = length-take (k + 1) groups in
    let within : k < length groups = inside in
    omega (arith, found, number, taken, within)
  where
    inside : k < length groups
    inside = elim (slice_get_cases groups k).1 [
      | inl at ↦ at.1
      | inr none ↦ absurd (cc (there, none.1))
    ]

pub long : (b : Beginning) (groups : List (List Entry)) (reached : ℕ) (image : List ℕ) → HoldsSynced b groups reached image → (k : ℕ) (group : List Entry) → slice_get groups k ≡ Some group
    → HasSync group → length (text_through b groups k) < length image → reached < length image → BeginsWith (text_through b groups k) image
long b groups reached image holds k group there some longer far = (omega (arith, longer), holds k group there some longer far)
