-- How a run over one log ended, said of what is known of its log.
use Rattle.std.proofs.Common.{◌≡◌, ◌≢◌, ◌⊎◌, inl, inr, ℕ, List, [], length, Option, Some, None, IfSome, refl, ap, sym, ◌∙◌, subst, arith}
use Rattle.std.specs.Prelude.{IsSome}
use Rattle.std.specs.List.{AllByRecursion}
use Rattle.base_devices.specs.Disk.{Disk, Told}
use Rattle.base_devices.specs.declared.disk.Disk.{Ghosts}
use Rattle.model_base.specs.Calls as calls
use Rattle.model_base.specs.History.{IsHistory}
use Rattle.model_base.specs.Outcomes.{IsLegal}
use Rattle.model_base.specs.Script.{Script}
use Rattle.model_base.specs.declared.options.Options.{Options}
use Rattle.model_runs.specs.Refusals.{AreRefusedForThemselves}
use Rattle.log_recovery.specs.declared.modes.Mode.{Mode}
use Rattle.run_outcome.specs.declared.log_start.LogStart.{LogStart}
use Rattle.run_outcome.specs.declared.log_start.LogStart.TheVariants.{New, Over, Behind}
use Rattle.run_outcome.specs.Running.{Execution, Before, GoesOnFrom, IsRunOf, LeavesSafeLog}
use Rattle.run_execution.specs.declared.end.RunEnd.{RunEnd}
use Rattle.run_execution.specs.declared.end.RunEnd.TheVariants as end
use Rattle.run_execution.specs.Ends.{EndsOn, HasFewFamilies, IsAccepted, Ran, execution_on}
use Rattle.program_call.specs.Logs.{LogsOfRun}
use Rattle.program_call.specs.OneLog.{HasBytes, log_of_run}
use Rattle.program_call.specs.Outcomes.{AcceptsCommits, GivesUpdates, IsUnharmed}
use Rattle.program_call.proofs.Endings.{EndsOver, RanSo}
use Rattle.program_call.proofs.Leaving.{left_alone}
use Rattle.program_call.proofs.ReadFaults.{rose_in_run}

-- where only a new log is to be empty, the content is empty or the log isn't a new one
fit_of : (start : LogStart) (content : List ℕ) → (start ≡ New → content ≡ []) → (length content ≡ 0) ⊎ (start ≢ New)
fit_of New content empty = inl (ap length (empty refl))
fit_of (Over number) content empty = inr (λ e. cc e)
fit_of (Behind number) content empty = inr (λ e. cc e)

-- a log with bytes isn't fit for a run
full_or_not : (start : LogStart) (found len : ℕ) → start ≡ New → found ≡ len → (found ≡ 0) ⊎ (start ≢ New) → len ≡ 0
full_or_not start found len plain is (inl none) = omega (arith, is, none)
full_or_not start found len plain is (inr other) = absurd (other plain)

module _ {D : Type 0} (disk : Ghosts D) (options : Options) (start : LogStart) (mode : Mode) (opened ended : D) where
  abbrev logs : LogsOfRun
  logs = log_of_run disk options start mode opened ended

  unfit : (told : Option Disk) (len : ℕ) → IsSome told → start ≡ New → IfSome told (λ d. length d.content ≡ len) → IfSome told (λ d. (length d.content ≡ 0) ⊎ (start ≢ New)) → len ≡ 0
  unfit None len some plain is fit = absurd (cc some)
  unfit (Some d) len some plain is fit = full_or_not start (length d.content) len plain is fit

  pub no_bytes : (len : ℕ) → HasBytes disk options start mode opened ended len → logs.told → logs.fit → ⊥
  no_bytes len has told fit = let none = unfit (disk.told opened) len told has.is_new has.len_is fit in let some = has.some in omega (arith, none, some)

  -- the call should run this script
  module _ (script : Script) where
    abbrev execution : Before → Execution
    execution from = execution_on disk options start from script opened ended

    -- the laws by which commits are accepted, and reads of the log give its records
    abbrev pub Law : Type 0
    Law = (from : Before) (o : calls.Outcome) → IsLegal (execution from).settings (disk.faults ended) script o
        → AcceptsCommits (execution from).settings script o × GivesUpdates o

    found_fit : (from : Before) (was is : Option Disk) (o : calls.Outcome) (run : IsRunOf (execution from) o) → Told was is (LeavesSafeLog (execution from) o run) → IfSome was (λ d. (length d.content ≡ 0) ⊎ (start ≢ New))
    found_fit from None is o run log = tt
    found_fit from (Some d) (Some e) o run log = fit_of start d.content log.found_empty
    found_fit from (Some d) None o run log = absurd log

    ran_so : Law → (from : Before) → GoesOnFrom start (disk.told opened) from → IsAccepted start mode (disk.told opened) × HasFewFamilies start (disk.told opened) → (o : calls.Outcome) (run : IsRunOf (execution from) o)
        → (o.fault ≡ None → AllByRecursion AreRefusedForThemselves o.transcripts) → Told (disk.told opened) (disk.told ended) (LeavesSafeLog (execution from) o run) → RanSo logs script o
    ran_so law from goes_on accepted o run refusals log =
        let legal = run.legal in
        let begun = run.trace.start in
        let counted : IsUnharmed o → disk.faults ended ≡ disk.faults opened = λ none. legal.counted none.0 none.1 in
        let holds = law from o (record { trace = run.trace; attempts = run.attempts; legal = legal }) in
        record {
          ran = record {
            accepted = accepted.0;
            families = accepted.1;
            before = from;
            goes_on = goes_on;
            is_outcome = record { run = run; counted = counted; log = log };
            refusals = refusals;
            accepts = holds.0;
            gives = holds.1;
          };
          begun = begun;
          history = subst (λ entries. IsHistory begun entries) (sym legal.history) legal.is_trace.entries;
          fit = found_fit from (disk.told opened) (disk.told ended) o run log;
          counted = counted;
          rose = rose_in_run (execution from).settings (disk.faults ended) script run.trace run.attempts o legal;
        }

    pub one_ends : Law → (e : RunEnd) → EndsOn disk options start mode script opened ended e → (Ran e → IsAccepted start mode (disk.told opened) × HasFewFamilies start (disk.told opened)) → EndsOver logs script e
    one_ends law (end.DiskFault count) ends accepted = (record { alone = ends.0; crash = ends.2 }, ends.1)
    one_ends law (end.NotEmpty len) ends accepted =
        (record { is_new = ends.0; some = ends.1; len_is = ends.2; as_before = ends.3; crash = ends.5 }, record { alone = inl ends.3; crash = left_alone disk start mode opened ended ends.5 }, ends.4)
    one_ends law (end.Damage at why) ends accepted =
        (record { is_damaged = ends.0; as_before = ends.1; crash = ends.3 }, record { alone = inl ends.1; crash = left_alone disk start mode opened ended ends.3 }, ends.2)
    one_ends law (end.Family family) ends accepted =
        (record { is_high = ends.0; as_before = ends.1; crash = ends.3 }, record { alone = inl ends.1; crash = left_alone disk start mode opened ended ends.3 }, ends.2)
    one_ends law end.NoMemory ends accepted = (record { alone = ends.0; crash = ends.2 }, ends.1)
    one_ends law end.NoOutcome (from, goes_on, has) accepted =
        (has.outcome, ran_so law from goes_on (accepted tt) has.outcome has.run has.refusals has.log)
    one_ends law (end.Ran shown) (from, goes_on, has) accepted =
        let alive : has.outcome.fault ≡ None → shown.fault ≡ None = λ none. sym has.shows.fault ∙ none in
        (has.outcome, ran_so law from goes_on (accepted tt) has.outcome has.run (λ none. has.refusals (alive none)) has.log, has.shows)
