-- What is printed of a recovery, of one log or of several, also where a disk failed during it; and all that is promised
-- of it.
use Rattle.std.proofs.Common.{◌≡◌, ◌≢◌, ◌⊎◌, inl, inr, ⊎_elim, ℕ, Bool, List, Option, Result, Ok, Err, ap, ◌∙◌, subst, arith}
use Rattle.std.specs.Prelude.{IfErr, IfOk, OnOk}
use Rattle.std.specs.Io.KnownBytes.{Appends}
use Rattle.base_devices.specs.declared.sink.Sink as sink
use Rattle.model_base.specs.Counts.{Rose}
use Rattle.model_base.specs.declared.log.EndReason.{EndReason}
use Rattle.log_recovery.specs.declared.recovery.RecoverError.{RecoverError}
use Rattle.log_recovery.specs.declared.recovery.RecoverError.TheVariants as none
use Rattle.run_outcome.specs.Running.{IsReached}
use Rattle.program_text.specs.Refusals.{disk_fault}
use Rattle.program_call.specs.declared.report.Status.{Status}
use Rattle.program_call.specs.declared.report.Status.TheVariants as status
use Rattle.program_call.specs.Answers.{RecoversLogs}
use Rattle.program_call.specs.Logs.{LogsToRecover}
use Rattle.program_call.specs.Reports.{Refuses, TellsFound, code, damage_of}
use Rattle.program_call.specs.Texts.{SaysTo, NoFault, TakesPrefix}
use Rattle.program_call.proofs.Refusing.{refused_as}

-- the statuses with which a recovery ends
abbrev One : ℕ → Type 0
One n = (n ≡ 0) ⊎ (n ≡ 3) ⊎ (n ≡ 5) ⊎ (n ≡ 6) ⊎ (n ≡ 8)

-- `T` is what was found in the logs, and `Is` says which texts tell it.
module _ {T : Type 0} (Is : T → List ℕ → Type 0) (several : Bool) (logs : LogsToRecover) where
  -- the error is true
  abbrev pub FailsTrue : RecoverError → Type 0
  FailsTrue (none.Fault count) = IsReached logs.failed count logs.fails
  FailsTrue none.NoMemory = logs.no_fault
  FailsTrue (none.Damage log at why) = logs.no_fault × logs.damaged (damage_of several log at why)

  -- what is found has a text that tells what the logs recover
  abbrev pub FindsTrue : T → Type 0
  FindsTrue shown = (text : List ℕ) → Is shown text → logs.recover text

  module _ (old new : Option (List ℕ)) (failed fails n : ℕ) where
    abbrev Tells : Result T RecoverError → Status → Type 0
    Tells found given = TellsFound Is several old new failed fails found given

    -- What follows from the status, for each end.
    record Ends : Type 0 where
      one : One n
      no_fault : (n ≡ 0) ⊎ (n ≡ 6) → fails ≡ failed
      sink_failed : n ≡ 5 → Rose failed fails
      disk_failed : n ≡ 3 → Rose logs.failed logs.fails
      fault_is_told : n ≢ 3 → logs.no_fault
      recovered : n ≡ 0 → (text : List ℕ) × logs.recover text × Appends old new text
      recovered_prefix : n ≡ 5 → (text : List ℕ) × logs.recover text × TakesPrefix old new text
      refused : n ≡ 3 → (count : ℕ) × IsReached logs.failed count logs.fails × SaysTo old new (disk_fault count) failed fails
      damaged : n ≡ 8 → (text : List ℕ) × logs.damaged text × SaysTo old new text failed fails
      silent : n ≡ 6 → new ≡ old
      completes : NoFault failed fails → NoFault logs.failed logs.fails → ((text : List ℕ) → logs.damaged text → ⊥) → (n ≡ 0) ⊎ (n ≡ 6)

    -- the text of what was found was printed, or there was no memory for it, or the sink failed
    at_done : n ≡ 0 → (text : List ℕ) → logs.recover text → Appends old new text → fails ≡ failed → logs.no_fault → Ends
    at_done is text recovers printed stood worked = record {
      one = inl is;
      no_fault = λ e. stood;
      sink_failed = λ e. absurd (omega (arith, is, e));
      disk_failed = λ e. absurd (omega (arith, is, e));
      fault_is_told = λ e. worked;
      recovered = λ e. (text, recovers, printed);
      recovered_prefix = λ e. absurd (omega (arith, is, e));
      refused = λ e. absurd (omega (arith, is, e));
      damaged = λ e. absurd (omega (arith, is, e));
      silent = λ e. absurd (omega (arith, is, e));
      completes = λ a b c. inl is;
    }

    at_sink : n ≡ 5 → (text : List ℕ) → logs.recover text → TakesPrefix old new text → Rose failed fails → logs.no_fault → Ends
    at_sink is text recovers printed rose worked = record {
      one = inr (inr (inl is));
      no_fault = λ e. absurd (⊎_elim (λ a. omega (arith, is, a)) (λ a. omega (arith, is, a)) e);
      sink_failed = λ e. rose;
      disk_failed = λ e. absurd (omega (arith, is, e));
      fault_is_told = λ e. worked;
      recovered = λ e. absurd (omega (arith, is, e));
      recovered_prefix = λ e. (text, recovers, printed);
      refused = λ e. absurd (omega (arith, is, e));
      damaged = λ e. absurd (omega (arith, is, e));
      silent = λ e. absurd (omega (arith, is, e));
      completes = λ a b c. absurd (a rose);
    }

    at_memory : n ≡ 6 → new ≡ old → fails ≡ failed → logs.no_fault → Ends
    at_memory is same stood worked = record {
      one = inr (inr (inr (inl is)));
      no_fault = λ e. stood;
      sink_failed = λ e. absurd (omega (arith, is, e));
      disk_failed = λ e. absurd (omega (arith, is, e));
      fault_is_told = λ e. worked;
      recovered = λ e. absurd (omega (arith, is, e));
      recovered_prefix = λ e. absurd (omega (arith, is, e));
      refused = λ e. absurd (omega (arith, is, e));
      damaged = λ e. absurd (omega (arith, is, e));
      silent = λ e. same;
      completes = λ a b c. inr is;
    }

    at_fault : n ≡ 3 → (count : ℕ) → IsReached logs.failed count logs.fails → SaysTo old new (disk_fault count) failed fails → Ends
    at_fault is count reached said = record {
      one = inr (inl is);
      no_fault = λ e. absurd (⊎_elim (λ a. omega (arith, is, a)) (λ a. omega (arith, is, a)) e);
      sink_failed = λ e. absurd (omega (arith, is, e));
      disk_failed = λ e. subst (Rose logs.failed) reached.1 reached.0;
      fault_is_told = λ e. absurd (e is);
      recovered = λ e. absurd (omega (arith, is, e));
      recovered_prefix = λ e. absurd (omega (arith, is, e));
      refused = λ e. (count, reached, said);
      damaged = λ e. absurd (omega (arith, is, e));
      silent = λ e. absurd (omega (arith, is, e));
      completes = λ a b c. absurd (b (subst (Rose logs.failed) reached.1 reached.0));
    }

    at_damage : n ≡ 8 → (text : List ℕ) → logs.damaged text → SaysTo old new text failed fails → logs.no_fault → Ends
    at_damage is text damage said worked = record {
      one = inr (inr (inr (inr is)));
      no_fault = λ e. absurd (⊎_elim (λ a. omega (arith, is, a)) (λ a. omega (arith, is, a)) e);
      sink_failed = λ e. absurd (omega (arith, is, e));
      disk_failed = λ e. absurd (omega (arith, is, e));
      fault_is_told = λ e. worked;
      recovered = λ e. absurd (omega (arith, is, e));
      recovered_prefix = λ e. absurd (omega (arith, is, e));
      refused = λ e. absurd (omega (arith, is, e));
      damaged = λ e. (text, damage, said);
      silent = λ e. absurd (omega (arith, is, e));
      completes = λ a b c. absurd (c text damage);
    }

    refused_so : (log at : ℕ) (why : EndReason) (given : Status) → n ≡ code given → logs.no_fault → logs.damaged (damage_of several log at why)
        → Refuses old new failed fails (damage_of several log at why) status.Damage given → Ends
    refused_so log at why given is worked damage tells =
        ⊎_elim (λ said. at_damage said.0 (damage_of several log at why) damage said.1 worked) (λ lacks. at_memory lacks.0 lacks.1 lacks.2 worked)
        (refused_as old new failed fails (damage_of several log at why) status.Damage given n is tells)

    found_so : (found : Result T RecoverError) (given : Status) → n ≡ code given → OnOk found logs.no_fault → IfOk found FindsTrue → IfErr found FailsTrue → Tells found given → Ends
    found_so (Ok shown) status.Done is worked finds fails tells = at_done is tells.0 (finds tells.0 tells.1) tells.2 tells.3 worked
    found_so (Ok shown) status.Sink is worked finds fails tells = at_sink is tells.1 (finds tells.1 tells.2) (tells.3, tells.4) tells.0 worked
    found_so (Ok shown) status.Memory is worked finds fails tells = at_memory is tells.0 tells.1 worked
    found_so (Ok shown) other is worked finds fails tells = absurd tells
    found_so (Err (none.Fault count)) given is worked finds fails tells = at_fault (is ∙ ap code tells.0) count fails tells.1
    found_so (Err none.NoMemory) given is worked finds fails tells = at_memory (is ∙ ap code tells.0) tells.1 tells.2 fails
    found_so (Err (none.Damage log at why)) given is worked finds fails tells = refused_so log at why given is fails.0 fails.1 tells

  -- all that is promised of a recovery follows from what was found, and from what was printed of it
  pub recovers_so : {K : Type 0} (sink : sink.Ghosts K) (before after : K) (n : ℕ) (found : Result T RecoverError) (given : Status) → n ≡ code given → logs.only_read
      → OnOk found logs.no_fault → IfOk found FindsTrue → IfErr found FailsTrue
      → TellsFound Is several (sink.taken before) (sink.taken after) (sink.faults before) (sink.faults after) found given → RecoversLogs sink before after logs n
  recovers_so sink before after n found given is only_read worked finds fails tells =
      let ends = found_so (sink.taken before) (sink.taken after) (sink.faults before) (sink.faults after) n found given is worked finds fails tells in
      record {
        one = ends.one;
        only_read = only_read;
        no_fault = ends.no_fault;
        sink_failed = ends.sink_failed;
        disk_failed = ends.disk_failed;
        fault_is_told = ends.fault_is_told;
        recovered = ends.recovered;
        recovered_prefix = ends.recovered_prefix;
        refused = ends.refused;
        damaged = ends.damaged;
        silent = ends.silent;
        completes = ends.completes;
      }

-- where there was no memory and nothing was done
pub recovers_none : {K : Type 0} (sink : sink.Ghosts K) (before after : K) (logs : LogsToRecover) (n : ℕ) → n ≡ 6 → after ≡ before → logs.only_read → logs.no_fault → RecoversLogs sink before after logs n
recovers_none sink before after logs n six silent only_read stood = record {
  one = inr (inr (inr (inl six)));
  only_read = only_read;
  no_fault = λ e. ap sink.faults silent;
  sink_failed = λ e. absurd (omega (arith, six, e));
  disk_failed = λ e. absurd (omega (arith, six, e));
  fault_is_told = λ e. stood;
  recovered = λ e. absurd (omega (arith, six, e));
  recovered_prefix = λ e. absurd (omega (arith, six, e));
  refused = λ e. absurd (omega (arith, six, e));
  damaged = λ e. absurd (omega (arith, six, e));
  silent = λ e. ap sink.taken silent;
  completes = λ a b c. inr six;
}
