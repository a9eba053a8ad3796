-- A legal outcome of a generated script in which no call failed has the summary of the script's batches.
use Rattle.std.proofs.Common.{◌≡◌, ℕ, ◌+◌, ◌-◌, ◌<◌, ◌≤◌, List, [], ◌∷◌, ◌++◌, length, map, sum_by, codes, None, refl, sym, ap, ◌∙◌, subst, arith}
use Rattle.std.specs.List.{AllByRecursion}
use Rattle.std.proofs.lemmas.List.Sums.{sum_by-cons}
use Rattle.model_base.specs.declared.limits.TheConstants.{MAX_CLIENTS, MAX_SIZE}
use Rattle.model_base.specs.Batch.{Record, count_of}
use Rattle.model_base.specs.Map.{Pairs}
use Rattle.model_base.specs.History.{Entry, map_over}
use Rattle.model_base.specs.Calls.{Command, Call, Outcome}
use Rattle.model_base.specs.Script.{value_of_digits}
use Rattle.model_base.specs.Trace.{Trace, Settings}
use Rattle.model_base.specs.Progress.{Progress, fresh}
use Rattle.model_base.specs.Runs.{Run, commands_of, NoneWithoutMemory, IsTranscript, whole, cut_off}
use Rattle.model_base.specs.Outcomes.{entries_of_client, IsLegal}
use Rattle.model_base.specs.Generator.{first_state, script_of_seed, number_line, summary_text}
use Rattle.run_laws.specs.Summaries.{batches_after, batches_of, map_of_batches, count_of_batches, summary_of}
use Rattle.run_laws.proofs.Lists.{all_at, all_back, all_mapped, made_at}
use Rattle.run_laws.proofs.DrawnTranscripts.{commands_drawn, length_generated, transcript_of, of_clients, all_drawn}
use Rattle.run_laws.proofs.Plain.{IsPlain, AreSound, all_accepted}
use Rattle.run_laws.proofs.Counts.{sequences_of, last_is, boundary_within, counted, sound, takes}
use Rattle.run_laws.proofs.DrawnPlain.{owned_drawn, plain_batches, batches_added}
use Rattle.run_laws.proofs.Interleaved.{AreBelow, all_from_one, sum_within, HaveBatches, sums_are}
use Rattle.run_laws.proofs.SameMap.{IsOwned, AreOwned, same_state}

-- a transcript in which no call found no memory is whole
abbrev IsWhole : Settings → Trace → ℕ → List Command → List Call → Progress → Type 0
IsWhole settings trace client commands calls end = (commands ≡ commands_of calls) × Run settings trace client fresh calls end

whole_of : (settings : Settings) (trace : Trace) (client : ℕ) (commands : List Command) (calls : List Call) (end : Progress) → NoneWithoutMemory calls → IsTranscript settings trace client commands calls end
    → IsWhole settings trace client commands calls end
whole_of settings trace client commands calls end found (whole is run) = (is, run)
whole_of settings trace client commands calls end found (cut_off front last rest cut is run lacks) =
    let cut_found = subst NoneWithoutMemory cut found in
    absurd ((all_back _ front _ cut_found).0 refl)

-- the sum of ones over a list is its length
ones : {X : Type 0} (xs : List X) → sum_by (λ x. 1) xs ≡ length xs
ones [] = refl
ones (x ∷ xs) = omega (arith, ones xs, sum_by-cons (λ x. 1) x xs)

-- the text of a summary, by its numbers
abbrev text_of : ℕ → ℕ → ℕ → ℕ → Pairs → List ℕ
text_of clients batches records last state =
    number_line (codes "clients") clients ++ number_line (codes "batches") batches
    ++ number_line (codes "records") records ++ number_line (codes "last") last
    ++ number_line (codes "keys") (length state)
    ++ number_line (codes "sum") (sum_by (λ p. value_of_digits p.1) state)

module _ (seed clients batches ended : ℕ) (settings : Settings) (o : Outcome) (few : clients ≤ MAX_CLIENTS) (bounded : batches ≤ 100000) (start : settings.start ≡ 0) (opening : settings.opening ≡ []) (bytes : settings.batch_bytes ≡ MAX_SIZE) (some_family : 1 ≤ settings.families)
    (legal : IsLegal settings ended (script_of_seed seed clients batches) o) (no_fault : o.fault ≡ None) (found : AllByRecursion NoneWithoutMemory o.transcripts) where
  abbrev trace : Trace
  trace = legal.trace

  named : AllByRecursion (λ (e : Entry). 1 ≤ e.client) trace.entries
  named = all_mapped _ _ (λ e is. is.0) trace.entries (of_clients seed clients batches ended settings o legal)

  below : AreBelow (1 + clients) trace.entries
  below = all_mapped _ _ (λ e is. omega (arith, is.1)) trace.entries (of_clients seed clients batches ended settings o legal)

  owned : AreOwned trace.entries
  owned = all_drawn seed clients batches ended settings o legal IsOwned (λ client some most. owned_drawn client (omega (arith, few, most)))

  -- each client takes at most 400,000 sequences, and so all together take at most 25,600,000
  one_within : (i : ℕ) → i < clients → sequences_of (entries_of_client (i + 1) trace.entries) ≤ 400000
  one_within i within =
      let t = transcript_of seed clients batches ended settings o legal i within in let right = t.right in
      let all = ap sequences_of right.accepted in
      omega (arith, bounded, all, takes settings trace (i + 1) (commands_drawn seed batches (i + 1)) t.calls right.end right.is_transcript, batches_added batches (i + 1) (first_state seed (i + 1)))

  client_within : (client : ℕ) → 1 ≤ client → client < 1 + clients → sequences_of (entries_of_client client trace.entries) ≤ 400000
  client_within client some most =
      let i : ℕ = client - 1 in let number : i + 1 ≡ client = omega arith in
      subst (λ k. sequences_of (entries_of_client k trace.entries) ≤ 400000) number (one_within i (omega arith))

  all_within : sequences_of trace.entries ≤ 25600000
  all_within =
      let all = ap sequences_of (all_from_one trace.entries named) in
      omega (arith, few, all, sum_within (λ (e : Entry). e.count) 400000 1 clients trace.entries below client_within)

  trace_start : trace.start ≡ 0
  trace_start = legal.legal.is_trace.start ∙ start

  -- so no commit was refused, and each client's batches are those that its commands make
  batches_are : (i : ℕ) → i < clients → map (λ (e : Entry). e.records) (entries_of_client (i + 1) trace.entries) ≡ batches_after [] (commands_drawn seed batches (i + 1))
  batches_are i within =
      let t = transcript_of seed clients batches ended settings o legal i within in let right = t.right in
      let commands = commands_drawn seed batches (i + 1) in
      let found_here = all_at NoneWithoutMemory o.transcripts i t.calls found t.there in
      let w = whole_of settings trace (i + 1) commands t.calls right.end found_here right.is_transcript in
      let statuses = sound 25600000 trace o.fault t.attempts no_fault
      (λ last b. omega (arith, all_within, trace_start, boundary_within trace.start trace.entries last legal.legal.is_trace.entries b)) right.statuses in
      let is_plain = subst (IsPlain 0) w.0 (plain_batches batches (i + 1) (first_state seed (i + 1)) (omega arith)) in
      let accepted = all_accepted 25600000 (omega arith) settings bytes some_family trace (i + 1) 0 fresh t.calls right.end is_plain (record { long = refl; short = tt; asked = refl }) (subst (AreSound 25600000) right.commits statuses) w.1 in
      ap (map (λ (e : Entry). e.records)) right.accepted ∙ accepted ∙ ap (batches_after []) (sym w.0)

  have_batches : HaveBatches trace.entries 1 (script_of_seed seed clients batches)
  have_batches i commands there =
      let made = made_at (commands_drawn seed batches) 1 clients i commands there in let number : i + 1 ≡ 1 + i = omega arith in
      subst (λ k. map (λ (e : Entry). e.records) (entries_of_client k trace.entries) ≡ batches_after [] (commands_drawn seed batches k)) number (batches_are i made.0)
      ∙ ap (batches_after []) (sym made.1)

  below_script : AreBelow (1 + length (script_of_seed seed clients batches)) trace.entries
  below_script = let length_is = length_generated seed clients batches ended settings o legal in subst (λ n. AreBelow (1 + n) trace.entries) (sym length_is) below

  -- a sum over all batches
  sums : (f : List Record → ℕ) → sum_by (λ (e : Entry). f e.records) trace.entries ≡ sum_by f (batches_of (script_of_seed seed clients batches))
  sums f = ap (sum_by (λ (e : Entry). f e.records)) (sym (all_from_one trace.entries named)) ∙ sums_are f trace.entries 1 (script_of_seed seed clients batches) below_script have_batches

  batches_same : length o.history ≡ length (batches_of (script_of_seed seed clients batches))
  batches_same = ap length legal.legal.history ∙ sym (ones trace.entries) ∙ sums (λ records. 1) ∙ ones (batches_of (script_of_seed seed clients batches))

  sequences_same : sequences_of trace.entries ≡ count_of_batches (batches_of (script_of_seed seed clients batches))
  sequences_same = counted trace.start trace.entries legal.legal.is_trace.entries ∙ sums count_of

  last_same : o.last ≡ count_of_batches (batches_of (script_of_seed seed clients batches))
  last_same = let l = legal.legal in let last = l.last in let end = last_is trace.start trace.entries l.is_trace.entries in omega (arith, last, end, trace_start, sequences_same)

  state_same : o.state ≡ map_of_batches (batches_of (script_of_seed seed clients batches))
  state_same = legal.legal.state ∙ ap (λ m. map_over m trace.entries) (legal.legal.is_trace.opening ∙ opening) ∙ same_state trace.entries (script_of_seed seed clients batches) owned named below_script have_batches

  pub one_summary : summary_text o ≡ summary_of (script_of_seed seed clients batches)
  one_summary =
      let script = script_of_seed seed clients batches in let count = count_of_batches (batches_of script) in
      ap (λ n. text_of n (length o.history) (sequences_of o.history) o.last o.state) legal.legal.count
      ∙ ap (λ n. text_of (length script) n (sequences_of o.history) o.last o.state) batches_same
      ∙ ap (λ n. text_of (length script) (length (batches_of script)) n o.last o.state) (ap sequences_of legal.legal.history ∙ sequences_same)
      ∙ ap (λ n. text_of (length script) (length (batches_of script)) count n o.state) last_same
      ∙ ap (λ m. text_of (length script) (length (batches_of script)) count count m) state_same
