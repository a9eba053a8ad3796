-- Without a crash and without a fault, the next call finds all that the log holds.
use Rattle.std.proofs.Common.{◌≡◌, ◌≢◌, ℕ, ◌≤◌, List, [], ◌++◌, length, take, drop, map, flat_map, Option, Some, None, MatchOption, refl, ap, sym, ◌∙◌, subst, arith, append-nil, length-append, length-take}
use Rattle.std.proofs.lemmas.List.{take-append-drop, take_all}
use Rattle.std.specs.List.{AllByRecursion}
use Rattle.base_devices.specs.Disk.{Disk}
use Rattle.base_devices.specs.declared.disk.Disk.{Ghosts}
use Rattle.model_base.specs.Map.{Pairs}
use Rattle.model_base.specs.Log.{text_from, text_after, SpellsWhole}
use Rattle.model_base.specs.History.{Entry, logged_entries, map_over, last_sequence as last_of_entries}
use Rattle.model_base.specs.LogContents.{records_of}
use Rattle.model_base.specs.Recovery.{Logged, logged_bytes, last_sequence}
use Rattle.log_laws.proofs.Placed.{length_map}
use Rattle.log_laws.proofs.Written.{spells_on}
use Rattle.log_laws.proofs.Synced.{spells_front}
use Rattle.log_recovery_laws.proofs.Kept.{same_logged}
use Rattle.model_runs.specs.Crashes.{over}
use Rattle.run_outcome.specs.declared.log_start.LogStart.{LogStart}
use Rattle.run_outcome.specs.declared.log_start.LogStart.TheVariants.{New, Over, Behind}
use Rattle.run_outcome.specs.Running.{Before, RecoversTo, beginning_of, begun_on, batches_of_log}
use Rattle.crash_laws.specs.Restarts.{Call, number_of, IsAlone, IsAfterGroups, map_of_batches}
use Rattle.crash_laws.proofs.Promised.{is_run, goes_on, leaves}
use Rattle.crash_laws.proofs.Lists.{drop_past, none_long, all_take}
use Rattle.crash_laws.proofs.Sequences.{IsCounted, AreCounted, all_counted, all_logged, are_counted, last_of_log, last_of_some}
use Rattle.crash_laws.proofs.Batches.{map_of_log}
use Rattle.crash_laws.proofs.Front.{map_before, last_before, kept, groups, all, own_all, spelled, bytes_of_all, own_next, at_least}

module _ {D : Type 0} {disk : Ghosts D} (call : Call disk) where
  pub counted : AreCounted (groups call)
  counted =
      let writes = (is_run call).writes in
      let legal = (is_run call).legal in
      let trace = (is_run call).trace in
      are_counted (groups call) (subst (AllByRecursion IsCounted) (sym writes.cut) (all_logged IsCounted trace.entries (all_counted trace.start trace.entries (legal.is_trace).entries))) writes.runs

  -- the map and the last sequence of what is found, by the entries of its groups
  pub after_groups : (image : List ℕ) (next : Before) (n : ℕ) → RecoversTo (number_of call) image next → next.batches ≡ batches_of_log call.ran.before (take n (groups call)) → IsAfterGroups call (take n (groups call)) next
  after_groups image next n to are =
      let some : List (List Entry) = take n (groups call) in
      let entries : List Entry = flat_map (λ (g : List Entry). g) some in
      record {
        map = to.map ∙ ap map_of_batches (sym to.batches ∙ are) ∙ map_of_log (kept call) some ∙ ap (λ (m : Pairs). map_over m entries) (sym (map_before call.start call.ran.before call.found (goes_on call)));
        last = to.last ∙ ap (last_sequence 0) (sym to.batches ∙ are) ∙ last_of_log (kept call) some (all_take _ n (groups call) counted)
            ∙ ap (λ (l : ℕ). last_of_entries l entries) (sym (last_before call.start call.ran.before call.found (goes_on call)));
      }

-- a text over what it covers is the text
covers : (t begun : List ℕ) → length begun ≤ length t → over t begun ≡ t
covers t begun within = ap (λ (l : List ℕ). t ++ l) (drop_past (length t) begun within) ∙ append-nil t

pub text_alone : (start : LogStart) (before : Before) (opened : Disk) (more : List ℕ) → IsAlone start → (start ≡ New → opened.content ≡ []) → over (before.kept ++ more) (begun_on start before opened.content) ≡ before.kept ++ more
text_alone New before opened more alone empty = covers (before.kept ++ more) opened.content (omega (arith, ap length (empty refl)))
text_alone (Over number) before opened more alone empty = absurd alone
text_alone (Behind number) before opened more alone empty = covers (before.kept ++ more) before.kept (omega (arith, length-append before.kept more))

of_none : {A : Type 0} (P : Type 0) (Q : A → Type 0) (o : Option A) → o ≡ None → MatchOption o P Q → P
of_none P Q None none is = is
of_none P Q (Some x) none is = absurd (cc none)

module _ {D : Type 0} {disk : Ghosts D} (call : Call disk) (next : Before) (none : call.outcome.fault ≡ None) (alone : IsAlone call.start) (to : RecoversTo (number_of call) call.left.content next) where
  abbrev whole : List ℕ
  whole = text_after (beginning_of call.start call.ran.before) (records_of (groups call))

  content_is : call.left.content ≡ whole
  content_is =
      let crash = ((leaves call).safe).crash in
      of_none (call.left.content ≡ over whole (begun_on call.start call.ran.before call.found.content)) _ call.outcome.fault none crash.failed
      ∙ text_alone call.start call.ran.before call.found (text_from (number_of call) (length call.ran.before.kept) (records_of (groups call))) alone (leaves call).found_empty

  spells_all : SpellsWhole (number_of call) whole (map logged_bytes (all call))
  spells_all = subst (SpellsWhole (number_of call) whole) (sym (bytes_of_all call)) (spells_on (number_of call) call.ran.before.kept (map logged_bytes (kept call)) (records_of (groups call)) (spelled call))

  pub all_found : next.batches ≡ all call
  all_found =
      let many : ℕ = length (all call) in
      let file : List ℕ = call.left.content in
      let same : take many (all call) ≡ all call = take_all many (all call) (omega arith) in
      let first = at_least call file next to many whole (omega arith) (subst (λ (bs : List Logged). SpellsWhole (number_of call) whole (map logged_bytes bs)) (sym same) spells_all)
      (omega (arith, ap length content_is), ap (take (length whole)) content_is ∙ take_all (length whole) whole (omega arith)) in
      let keeps = (to.is).keeps in
      let parts = spells_front (number_of call) file (take (to.recovered).kept file) (drop (to.recovered).kept file) (map logged_bytes (all call)) (map logged_bytes (to.recovered).batches) (sym (take-append-drop (to.recovered).kept file))
      (subst (λ (l : List ℕ). SpellsWhole (number_of call) l (map logged_bytes (all call))) (sym content_is) spells_all) keeps.spelled in
      let nothing_else : parts.0 ≡ [] = none_long parts.0 (omega (arith, ap length first, length-take many next.batches, length-take many (all call), ap length parts.1, ap length to.batches, length_map logged_bytes (all call), length_map logged_bytes (to.recovered).batches, length-append (map logged_bytes (to.recovered).batches) parts.0)) in
      let bytes : map logged_bytes (all call) ≡ map logged_bytes (to.recovered).batches = parts.1 ∙ ap (λ (l : List (List ℕ)). map logged_bytes (to.recovered).batches ++ l) nothing_else ∙ append-nil (map logged_bytes (to.recovered).batches) in
      same_logged next.batches (all call) (own_next call file next to) (own_all call) (ap (map logged_bytes) to.batches ∙ sym bytes)

  pub state_found : logged_entries call.outcome.history ≡ call.outcome.history → (next.map ≡ call.outcome.state) × (call.outcome.history ≢ [] → next.last ≡ call.outcome.last)
  state_found logged =
      let legal = (is_run call).legal in
      let trace = legal.is_trace in
      let writes = (is_run call).writes in
      let all_entries : List Entry = (is_run call).trace.entries in
      let n : ℕ = length (groups call) in
      let whole : take n (groups call) ≡ groups call = take_all n (groups call) (omega arith) in
      let after = after_groups call call.left.content next n to (all_found ∙ ap (batches_of_log call.ran.before) (sym whole)) in
      let entries : flat_map (λ (g : List Entry). g) (take n (groups call)) ≡ all_entries =
      ap (flat_map (λ (g : List Entry). g)) whole ∙ writes.cut ∙ ap logged_entries (sym legal.history) ∙ logged ∙ legal.history in (
        after.map ∙ ap (map_over call.ran.before.map) entries ∙ ap (λ (m : Pairs). map_over m all_entries) (sym trace.opening) ∙ sym legal.state,
        λ some.
            after.last ∙ ap (last_of_entries call.ran.before.last) entries
            ∙ last_of_some call.ran.before.last (is_run call).trace.start all_entries (λ none. some (legal.history ∙ none)) ∙ sym legal.last,
      )
