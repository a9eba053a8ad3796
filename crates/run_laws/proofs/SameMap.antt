-- The map of interleaved entries is that of the same batches client by client, if no two clients have a key in common.
use Rattle.std.proofs.Common.{◌≡◌, ◌≢◌, ◌⊎◌, ℕ, suc, ◌+◌, ◌<◌, ◌≤◌, true, false, ◌==◌, List, [], ◌∷◌, ◌++◌, length, flat_map, Option, None, refl, sym, ap, ◌∙◌, inl, inr, arith}
use Rattle.std.specs.declared.cmp.Ordering.{Ordering}
use Rattle.std.specs.declared.cmp.Ordering.TheVariants.{Less, Equal, Greater}
use Rattle.std.specs.Ordering.{is_eq}
use Rattle.std.specs.List.{AllByRecursion}
use Rattle.std.proofs.lemmas.Bool.{cases_lt}
use Rattle.std.proofs.lemmas.Bool.Decides.{nat_tests}
use Rattle.std.proofs.lemmas.List.Concat.{flat_map-append}
use Rattle.std.proofs.lemmas.List.Folds.{flat_map-map}
use Rattle.std.proofs.lemmas.List.Sums.{fold-append}
use Rattle.model_base.specs.Batch.{Record, value, deletion, single_deletion, log_data}
use Rattle.model_base.specs.Calls.{Command}
use Rattle.model_base.specs.declared.key.Key.{Key}
use Rattle.model_base.specs.Map.{Pairs, key_order, key_in, after_record, after_records}
use Rattle.table_rule.proofs.Keys.{equal_keys}
use Rattle.model_base.specs.History.{Entry, map_over, map_of}
use Rattle.model_base.specs.Script.{Script}
use Rattle.model_base.specs.Outcomes.{entries_of_client}
use Rattle.run_laws.specs.Summaries.{batches_after, batches_of, map_of_batches}
use Rattle.run_laws.proofs.Lists.{all_mapped}
use Rattle.run_laws.proofs.Entries.{same_number}
use Rattle.run_laws.proofs.Progresses.{HasOnly}
use Rattle.run_laws.proofs.Keys.{owner}
use Rattle.run_laws.proofs.Maps.{is_key, changed, changed_by, same_map}
use Rattle.run_laws.proofs.Interleaved.{AreBelow, HaveBatches, batches_first, batches_rest}

-- the record's key belongs to this client
abbrev pub IsOwned : ℕ → Record → Type 0
IsOwned client (value family key v) = owner key ≡ client
IsOwned client (deletion family key) = owner key ≡ client
IsOwned client (single_deletion family key) = owner key ≡ client
IsOwned client (log_data blob) = Unit {0}

abbrev pub AreOwned : List Entry → Type 0
AreOwned entries = AllByRecursion (HasOnly IsOwned) entries

abbrev pub records_of : List Entry → List Record
records_of entries = flat_map (λ (e : Entry). e.records) entries

-- A record of one client does nothing to a key of another

other_key : (client : ℕ) (q key : Key) → owner key.bytes ≡ client → owner q.bytes ≢ client → is_key q key ≡ false
other_key client q key of_client apart = go (key_order q key) refl
  where
    go : (o : Ordering) → key_order q key ≡ o → is_eq o ≡ false
    go Less p = refl
    go Equal p = absurd (apart (ap (λ (k : Key). owner k.bytes) (equal_keys q key p) ∙ of_client))
    go Greater p = refl

untouched_one : (client : ℕ) (q : Key) (r : Record) (old : Option (List ℕ)) → IsOwned client r → owner q.bytes ≢ client → changed q r old ≡ old
untouched_one client q (value family key v) old owned apart = rw (other_key client q (key_in family key) owned apart) refl
untouched_one client q (deletion family key) old owned apart = rw (other_key client q (key_in family key) owned apart) refl
untouched_one client q (single_deletion family key) old owned apart = rw (other_key client q (key_in family key) owned apart) refl
untouched_one client q (log_data blob) old owned apart = refl

untouched : (client : ℕ) (q : Key) (records : List Record) (old : Option (List ℕ)) → AllByRecursion (IsOwned client) records → owner q.bytes ≢ client → changed_by q records old ≡ old
untouched client q [] old owned apart = refl
untouched client q (r ∷ records) old owned apart = ap (changed_by q records) (untouched_one client q r old owned.0 apart) ∙ untouched client q records old owned.1 apart

changed_by-append : (q : Key) (records more : List Record) (old : Option (List ℕ)) → changed_by q (records ++ more) old ≡ changed_by q more (changed_by q records old)
changed_by-append q records more old = fold-append (λ o r. changed q r o) old records more

-- two numbers are the same or aren't
abbrev WhichOf : ℕ → ℕ → Type 0
WhichOf a b = ((a ≡ b) × ((a == b) ≡ true)) ⊎ ((a ≢ b) × ((a == b) ≡ false))

which : (a b : ℕ) → WhichOf a b
which a b =
    elim (cases_lt a b) [
      | inl below ↦ inr (λ e. absurd (omega (arith, below, e)), grind (arith, nat_tests))
      | inr not_below ↦ elim (cases_lt b a) [
        | inl above ↦ inr (λ e. absurd (omega (arith, above, e)), grind (arith, nat_tests))
        | inr not_above ↦ (let same : a ≡ b = omega arith in inl (same, same_number a b same))
      ]
    ]

module _ (q : Key) where
  -- what these entries do to the value of the key
  abbrev done_by : List Entry → Option (List ℕ) → Option (List ℕ)
  done_by entries old = changed_by q (records_of entries) old

  -- the entries of another client do nothing to it
  untouched_own : (client : ℕ) (entries : List Entry) (old : Option (List ℕ)) → AreOwned entries → owner q.bytes ≢ client → done_by (entries_of_client client entries) old ≡ old
  untouched_own client [] old owned apart = refl
  untouched_own client (e ∷ entries) old owned apart =
      let rest = untouched_own client entries old owned.1 apart in
      elim (which e.client client) [
        | inl is ↦ rw (is.1) (changed_by-append q e.records (records_of (entries_of_client client entries)) old
            ∙ ap (done_by (entries_of_client client entries)) (untouched e.client q e.records old owned.0 (λ h. apart (h ∙ is.0))) ∙ rest)
        | inr other ↦ rw (other.1) rest
      ]

  -- so all entries together do what those of the key's owner do
  own_only : (entries : List Entry) (old : Option (List ℕ)) → AreOwned entries → done_by entries old ≡ done_by (entries_of_client (owner q.bytes) entries) old
  own_only [] old owned = refl
  own_only (e ∷ entries) old owned =
      let first = changed_by-append q e.records (records_of entries) old in
      elim (which e.client (owner q.bytes)) [
        | inl is ↦ rw (is.1) (first ∙ own_only entries (changed_by q e.records old) owned.1 ∙ sym (changed_by-append q e.records (records_of (entries_of_client (owner q.bytes) entries)) old))
        | inr other ↦ rw (other.1) (first ∙ own_only entries (changed_by q e.records old) owned.1
            ∙ ap (done_by (entries_of_client (owner q.bytes) entries)) (untouched e.client q e.records old owned.0 (λ h. other.0 (sym h))))
      ]

  none_at : (client : ℕ) (entries : List Entry) → AreBelow client entries → entries_of_client client entries ≡ []
  none_at client [] below = refl
  none_at client (e ∷ entries) below = let first = below.0 in let other : (e.client == client) ≡ false = grind (arith, nat_tests) in rw other (none_at client entries below.1)

  -- Batch by batch

  -- what these batches do to the value of the key
  abbrev done_in : List (List Record) → Option (List ℕ) → Option (List ℕ)
  done_in batches old = changed_by q (flat_map (λ records. records) batches) old

  done_in-append : (batches more : List (List Record)) (old : Option (List ℕ)) → done_in (batches ++ more) old ≡ done_in more (done_in batches old)
  done_in-append batches more old =
      ap (λ records. changed_by q records old) (flat_map-append (λ (records : List Record). records) batches more)
      ∙ changed_by-append q (flat_map (λ records. records) batches) (flat_map (λ records. records) more) old

  -- a client's batches do what its entries do
  done_first : (entries : List Entry) (first : ℕ) (commands : List Command) (script : Script) (old : Option (List ℕ)) → HaveBatches entries first (commands ∷ script)
      → done_in (batches_after [] commands) old ≡ done_by (entries_of_client first entries) old
  done_first entries first commands script old has =
      ap (λ batches. done_in batches old) (sym (batches_first entries first commands script has))
      ∙ ap (λ records. changed_by q records old) (flat_map-map (λ (records : List Record). records) (λ (e : Entry). e.records) (entries_of_client first entries))

  -- the batches of clients after the owner do nothing
  later : (entries : List Entry) (first : ℕ) (script : Script) (old : Option (List ℕ)) → AreOwned entries → HaveBatches entries first script → owner q.bytes < first → done_in (batches_of script) old ≡ old
  later entries first [] old owned has past = refl
  later entries first (commands ∷ script) old owned has past =
      done_in-append (batches_after [] commands) (batches_of script) old
      ∙ ap (done_in (batches_of script)) (done_first entries first commands script old has ∙ untouched_own first entries old owned (λ e. absurd (omega (arith, past, e))))
      ∙ later entries (first + 1) script old owned (batches_rest entries first commands script has) (omega (arith, past))

  -- the batches of the clients from this one on, up to the owner's, do what the owner's entries do
  up_to_owner : (entries : List Entry) (first : ℕ) (script : Script) (old : Option (List ℕ)) → AreOwned entries → AreBelow (first + length script) entries → HaveBatches entries first script → first ≤ owner q.bytes
      → done_in (batches_of script) old ≡ done_by (entries_of_client (owner q.bytes) entries) old
  up_to_owner entries first [] old owned below has from =
      let bound : AreBelow (owner q.bytes) entries = all_mapped _ _ (λ (e : Entry) (b : e.client < first + 0). omega (arith, b, from)) entries below in
      sym (ap (λ es. done_by es old) (none_at (owner q.bytes) entries bound))
  up_to_owner entries first (commands ∷ script) old owned below has from =
      let others = batches_rest entries first commands script has in
      let two = done_in-append (batches_after [] commands) (batches_of script) old in let one = done_first entries first commands script old has in
      elim (which (owner q.bytes) first) [
        | inl is ↦ two ∙ later entries (first + 1) script (done_in (batches_after [] commands) old) owned others (let same = is.0 in omega arith)
            ∙ one ∙ ap (λ k. done_by (entries_of_client k entries) old) (sym is.0)
        | inr other ↦ two ∙ ap (done_in (batches_of script)) (one ∙ untouched_own first entries old owned other.0)
            ∙ up_to_owner entries (first + 1) script old owned (all_mapped _ _ (λ (e : Entry) (b : e.client < first + suc (length script)). omega (arith, b)) entries below) others (let apart = other.0 in omega arith)
      ]

  same_at : (entries : List Entry) (script : Script) (old : Option (List ℕ)) → AreOwned entries → AreBelow (1 + length script) entries → HaveBatches entries 1 script → 1 ≤ owner q.bytes
      → done_by entries old ≡ done_in (batches_of script) old
  same_at entries script old owned below has from = own_only entries old owned ∙ sym (up_to_owner entries 1 script old owned below has from)

nobody : (client : ℕ) → client < 1 → (entries : List Entry) → AllByRecursion (λ (e : Entry). 1 ≤ e.client) entries → entries_of_client client entries ≡ []
nobody client none [] named = refl
nobody client none (e ∷ entries) named = let first = named.0 in let other : (e.client == client) ≡ false = grind (arith, nat_tests) in rw other (nobody client none entries named.1)

map_of-records : (m : Pairs) (entries : List Entry) → map_over m entries ≡ after_records m (records_of entries)
map_of-records m [] = refl
map_of-records m (e ∷ entries) = map_of-records (after_records m e.records) entries ∙ sym (fold-append after_record m e.records (records_of entries))

-- the map that entries make is that of the batches one after another
pub same_state : (entries : List Entry) (script : Script) → AreOwned entries → AllByRecursion (λ (e : Entry). 1 ≤ e.client) entries → AreBelow (1 + length script) entries → HaveBatches entries 1 script
    → map_of entries ≡ map_of_batches (batches_of script)
same_state entries script owned named below has =
    map_of-records [] entries ∙ same_map (records_of entries) (flat_map (λ records. records) (batches_of script)) (λ q. by_owner q (cases_lt (owner q.bytes) 1))
  where
    by_owner : (q : Key) → (owner q.bytes < 1) ⊎ (1 ≤ owner q.bytes) → changed_by q (records_of entries) None ≡ changed_by q (flat_map (λ records. records) (batches_of script)) None
    by_owner q (inl none) =
        own_only q entries None owned ∙ ap (λ es. done_by q es None) (nobody (owner q.bytes) none entries named) ∙ sym (later q entries 1 script None owned has none)
    by_owner q (inr some) = same_at q entries script None owned below has some
