-- What a call promises of `run`, put together: where the script was run, or would have been; where no script was read;
-- and where there was no memory for anything.
use Rattle.std.proofs.Common.{◌≡◌, ◌≢◌, ◌⊎◌, inl, inr, ℕ, ◌<◌, List, [], Option, Some, None, Ok, Err, IfSome, ap, sym, subst, arith}
use Rattle.base_devices.specs.declared.source.Source as source
use Rattle.base_devices.specs.declared.sink.Sink as sink
use Rattle.model_base.specs.Script.{Script, script_of, whole_grammar}
use Rattle.std.specs.Io.KnownBytes.{IsAtEnd}
use Rattle.program_call.specs.declared.reading.ReadError.{ReadError}
use Rattle.program_call.specs.declared.report.Form.TheVariants as form
use Rattle.program_call.specs.declared.report.Status.{Status}
use Rattle.program_call.specs.Answers.{AnswersRun, RunsScript}
use Rattle.program_call.specs.Logs.{LogsOfRun}
use Rattle.program_call.specs.Outcomes.{Observation, observation_of, SaysScript}
use Rattle.program_call.specs.Reading.{IsScriptError, CountStays}
use Rattle.program_call.specs.Reports.{TellsReadError, HasRunStatus, code}
use Rattle.program_call.proofs.Endings.{AtStatus, unread}
use Rattle.program_call.proofs.Runs.{runs_script, runs_none, completes}
use Rattle.program_call.proofs.Unread.{source_failed, fault_said, unread_stood, unread_completes, unread_other, unread_status, is_script, left_untouched}

-- the status of a run is none of those for a text that isn't one
other_status : (n : ℕ) → HasRunStatus n → (n < 10) × (n ≢ 1) × (n ≢ 2) × (n ≢ 4)
other_status n (inl e) = (omega (arith, e), λ a. omega (arith, a, e), λ a. omega (arith, a, e), λ a. omega (arith, a, e))
other_status n (inr (inl e)) = (omega (arith, e), λ a. omega (arith, a, e), λ a. omega (arith, a, e), λ a. omega (arith, a, e))
other_status n (inr (inr (inl e))) = (omega (arith, e), λ a. omega (arith, a, e), λ a. omega (arith, a, e), λ a. omega (arith, a, e))
other_status n (inr (inr (inr (inl e)))) = (omega (arith, e), λ a. omega (arith, a, e), λ a. omega (arith, a, e), λ a. omega (arith, a, e))
other_status n (inr (inr (inr (inr (inl e))))) = (omega (arith, e), λ a. omega (arith, a, e), λ a. omega (arith, a, e), λ a. omega (arith, a, e))
other_status n (inr (inr (inr (inr (inr (inl e)))))) = (omega (arith, e), λ a. omega (arith, a, e), λ a. omega (arith, a, e), λ a. omega (arith, a, e))
other_status n (inr (inr (inr (inr (inr (inr e)))))) = (omega (arith, e), λ a. omega (arith, a, e), λ a. omega (arith, a, e), λ a. omega (arith, a, e))

-- nor is that of a text that wasn't read one of a run
no_device : (n : ℕ) → (n ≡ 2) ⊎ (n ≡ 4) ⊎ (n ≡ 6) → (n ≡ 0) ⊎ (n ≡ 3) ⊎ (n ≡ 5) ⊎ (n ≡ 7) ⊎ (n ≡ 8) ⊎ (n ≡ 9) → ⊥
no_device n (inl a) (inl e) = omega (arith, a, e)
no_device n (inl a) (inr (inl e)) = omega (arith, a, e)
no_device n (inl a) (inr (inr (inl e))) = omega (arith, a, e)
no_device n (inl a) (inr (inr (inr (inl e)))) = omega (arith, a, e)
no_device n (inl a) (inr (inr (inr (inr (inl e))))) = omega (arith, a, e)
no_device n (inl a) (inr (inr (inr (inr (inr e))))) = omega (arith, a, e)
no_device n (inr (inl a)) (inl e) = omega (arith, a, e)
no_device n (inr (inl a)) (inr (inl e)) = omega (arith, a, e)
no_device n (inr (inl a)) (inr (inr (inl e))) = omega (arith, a, e)
no_device n (inr (inl a)) (inr (inr (inr (inl e)))) = omega (arith, a, e)
no_device n (inr (inl a)) (inr (inr (inr (inr (inl e))))) = omega (arith, a, e)
no_device n (inr (inl a)) (inr (inr (inr (inr (inr e))))) = omega (arith, a, e)
no_device n (inr (inr a)) (inl e) = omega (arith, a, e)
no_device n (inr (inr a)) (inr (inl e)) = omega (arith, a, e)
no_device n (inr (inr a)) (inr (inr (inl e))) = omega (arith, a, e)
no_device n (inr (inr a)) (inr (inr (inr (inl e)))) = omega (arith, a, e)
no_device n (inr (inr a)) (inr (inr (inr (inr (inl e))))) = omega (arith, a, e)
no_device n (inr (inr a)) (inr (inr (inr (inr (inr e))))) = omega (arith, a, e)

unread_one : (n : ℕ) → (n ≡ 2) ⊎ (n ≡ 4) ⊎ (n ≡ 6) → (n < 10) × (n ≢ 1)
unread_one n (inl a) = (omega (arith, a), λ e. omega (arith, a, e))
unread_one n (inr (inl a)) = (omega (arith, a), λ e. omega (arith, a, e))
unread_one n (inr (inr a)) = (omega (arith, a), λ e. omega (arith, a, e))

if_some : {T : Type 0} (P : T → Type 0) (o : Option T) → ((x : T) → P x) → IfSome o P
if_some P None all = tt
if_some P (Some x) all = all x

module _ {S K : Type 0} (source : source.Ghosts S) (sink : sink.Ghosts K) (had has : S) (before after : K) (logs : LogsOfRun) (n : ℕ) where
  abbrev seen : Observation
  seen = observation_of sink (SaysScript (source.left had)) form.Whole logs before after

  no_text : HasRunStatus n → (n ≡ 2) ⊎ (n ≡ 4) → ⊥
  no_text one (inl e) = (other_status n one).2 e
  no_text one (inr e) = (other_status n one).3 e

  -- this script was run, or would have been
  pub ran_answers : (script : Script) → HasRunStatus n → IfSome (source.left had) (λ text. script_of whole_grammar text ≡ Ok script) → IsAtEnd (source.left has) → source.faults has ≡ source.faults had
      → RunsScript seen n → ((len : ℕ) → logs.not_empty len → logs.told → logs.fit → ⊥) → AnswersRun source sink had has before after logs n
  ran_answers script one said ended counted runs no_bytes = record {
    other = let other = other_status n one in (other.0, other.1);
    script = λ e. absurd (no_text one (inl e));
    other_script = λ memory stood. is_script (source.left had) script (n ≡ 2) said;
    source_failed = λ e. absurd (no_text one (inr e));
    source_fault_is_told = λ other. counted;
    read_to_end = λ e. at_end (source.left has) ended;
    disk_untouched = λ e. absurd (no_text one e);
    no_script = is_script (source.left had) script logs.untouched said;
    runs = runs;
    completes = λ stood sink_stood disk_stood no_damage no_family told fit. if_some _ (source.left had) (λ text this is. completes seen n runs one sink_stood disk_stood no_damage no_family (λ len bytes. no_bytes len bytes told fit));
  }
    where
      at_end : (left : Option (List ℕ)) → IsAtEnd left → IfSome left (λ rest. rest ≡ [])
      at_end None end = tt
      at_end (Some rest) end = end

  -- no script was read, and nothing was done to the logs
  pub unread_answers : (why : ReadError) (given : Status) → n ≡ code given → IsScriptError (source.left had) (source.faults had) (source.faults has) why → CountStays (source.faults had) (source.faults has) why
      → TellsReadError (sink.taken before) (sink.taken after) (sink.faults before) (sink.faults after) why given
      → logs.untouched → logs.left_alone → logs.fails ≡ logs.failed → AnswersRun source sink had has before after logs n
  unread_answers why given is error counted tells untouched alone stood =
      let left = source.left had in
      let failed = source.faults had in
      let fails = source.faults has in
      let old = sink.taken before in
      let new = sink.taken after in
      let kf = sink.faults before in
      let kfs = sink.faults after in
      let one = unread_status kf kfs n old new given is why tells in
      let Why : ReadError → Type 0 = IsScriptError left failed fails in
      record {
        other = unread_one n one;
        script = fault_said Why (λ f. IfSome left (λ text. script_of whole_grammar text ≡ Err f)) (λ line kind e. e) old new kf kfs n given is why error tells;
        other_script = λ memory worked. unread_other left failed fails kf kfs n old new given is why error tells memory worked;
        source_failed = λ four. let s = source_failed Why failed fails (λ count e. e) old new kf kfs n given is why error tells four in record { failed = s.0; count = s.1.0; reached = s.1.1; said = s.1.2 };
        source_fault_is_told = unread_stood failed fails kf kfs n old new given is why counted tells;
        read_to_end = λ e. absurd (no_device n one e);
        disk_untouched = λ e. untouched;
        no_script = left_untouched left logs.untouched untouched;
        runs = runs_script seen n (subst (AtStatus seen) (sym is) (unread seen why given alone stood tells));
        completes = λ worked sink_stood disk_stood no_damage no_family told fit. unread_completes left failed fails kf kfs n old new given is why error tells worked;
      }

  -- there was no memory, and no device was touched
  pub none_answers : n ≡ 6 → has ≡ had → after ≡ before → logs.untouched → logs.left_alone → logs.fails ≡ logs.failed → AnswersRun source sink had has before after logs n
  none_answers six same silent untouched alone stood = record {
    other = (omega (arith, six), λ e. omega (arith, six, e));
    script = λ e. absurd (omega (arith, six, e));
    other_script = λ memory worked. absurd (memory six);
    source_failed = λ e. absurd (omega (arith, six, e));
    source_fault_is_told = λ other. ap source.faults same;
    read_to_end = λ e. absurd (no_device n (inr (inr six)) e);
    disk_untouched = λ e. untouched;
    no_script = if_some _ (source.left had) (λ text f other. untouched);
    runs = runs_none seen n six (ap sink.taken silent) (ap sink.faults silent) alone stood;
    completes = λ worked sink_stood disk_stood no_damage no_family told fit. if_some _ (source.left had) (λ text script said. inr six);
  }
