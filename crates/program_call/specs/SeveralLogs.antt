-- Several logs, each on a disk of its own: what a run finds in them and leaves in them, and what they recover.
use Rattle.std.specs.Prelude.{◌≡◌, ◌≢◌, ℕ, List, IsSome}
use Rattle.std.specs.List.{AllByRecursion, AllZip}
use Rattle.base_devices.specs.Faults.{count_in_all}
use Rattle.base_devices.specs.declared.disk.Disk.{Ghosts}
use Rattle.model_base.specs.Calls as calls
use Rattle.model_base.specs.Log.{plain_log}
use Rattle.model_base.specs.RecoveredLogs.{RecoveredLogs, AreRecovered}
use Rattle.model_base.specs.Script.{Script}
use Rattle.model_base.specs.Text.{recovered_logs_text}
use Rattle.model_base.specs.declared.log.EndReason.{EndReason}
use Rattle.model_base.specs.declared.options.Options.{Options}
use Rattle.log_recovery.specs.declared.modes.Mode.{Mode}
use Rattle.log_recovery.specs.declared.modes.Mode.TheVariants.{Point}
use Rattle.log_recovery.specs.RecoveringLogs.{Holds, AcceptFrom, AreDamaged, AreReadInTurn, CountNone}
use Rattle.log_writer.specs.SetOpening.{HasFirstBytes, IsEmpty}
use Rattle.program_text.specs.Refusals.{logs_damage}
use Rattle.run_execution.specs.SetEnds.{AreLeftAlone, HasSetOutcome, set_execution_on}
use Rattle.program_call.specs.Logs.{LogsOfRun, LogsToRecover}
use Rattle.program_call.specs.OneLog.{IsOnlyRead}
use Rattle.program_call.specs.Outcomes.{AcceptsCommits, GivesUpdates}

-- A call that should run a script over new logs, one on each of these disks; a log is full once it has as many bytes as
-- the limit. The call leaves the disks `ended`.
module _ {D : Type 0} (disk : Ghosts D) (options : Options) (limit : ℕ) (opened ended : List D) where
  -- a script was run, and this is its outcome; commits were accepted, and reads of the log gave its records, unless a
  -- named cause holds, or found no memory
  pub record RanOverLogs (script : Script) (o : calls.Outcome) : Type 0 where
    pub is_outcome : HasSetOutcome disk opened ended (set_execution_on disk options limit script opened ended) o
    pub accepts : AcceptsCommits (set_execution_on disk options limit script opened ended).settings script o
    pub gives : GivesUpdates o

  -- the first disk that isn't empty has so many bytes, and all of them were left alone
  pub record HaveBytes (len : ℕ) : Type 0 where
    pub first : HasFirstBytes disk opened len
    pub alone : AreLeftAlone disk opened ended

  -- New logs never go on, so no end of a recovery is refused, and no family that one needs.
  abbrev pub logs_of_run : LogsOfRun
  logs_of_run = record {
    failed = count_in_all disk.faults opened;
    fails = count_in_all disk.faults ended;
    told = AllByRecursion (λ d. IsSome (disk.told d)) opened;
    fit = AllByRecursion (IsEmpty disk) opened;
    ran = λ script o. RanOverLogs script o;
    untouched = ended ≡ opened;
    left_alone = AreLeftAlone disk opened ended;
    not_empty = λ len. HaveBytes len;
    damaged = λ at why. ⊥;
    high_family = λ family. ⊥;
  }

-- this is the text of what the files recover, one after another, and the mode accepts the end
pub record RecoverLogs (mode : Mode) (files : List (List ℕ)) (text : List ℕ) : Type 0 where
  pub recovered : RecoveredLogs
  pub are_recovered : AreRecovered plain_log files recovered
  pub accepted : AcceptFrom 1 mode files recovered.log recovered.at recovered.why
  pub text_is : text ≡ recovered_logs_text recovered

-- this refusal says where recovery of these disks' logs ends and why, and the mode, which isn't the one that accepts
-- any end, doesn't accept that
pub record AreRefused {D : Type 0} (disk : Ghosts D) (mode : Mode) (opened : List D) (text : List ℕ) : Type 0 where
  pub log : ℕ
  pub at : ℕ
  pub why : EndReason
  pub not_any : mode ≢ Point
  pub damaged : (files : List (List ℕ)) → AllZip (Holds disk) opened files → AreDamaged mode files log at why
  pub text_is : text ≡ logs_damage log at why

-- Each disk is only read. Those behind a log that doesn't end clean aren't touched.
pub record AreOnlyRead {D : Type 0} (disk : Ghosts D) (opened ended : List D) : Type 0 where
  pub each : AllZip (IsOnlyRead disk) opened ended
  pub in_turn : (files : List (List ℕ)) → AllZip (Holds disk) opened files → AreReadInTurn 0 files opened ended

-- A call that should say what the logs of these disks recover, one after another.
abbrev pub logs_to_recover : {D : Type 0} → Ghosts D → Mode → List D → List D → LogsToRecover
logs_to_recover disk mode opened ended = record {
  failed = count_in_all disk.faults opened;
  fails = count_in_all disk.faults ended;
  no_fault = CountNone disk.faults opened ended;
  only_read = AreOnlyRead disk opened ended;
  recover = λ text. (files : List (List ℕ)) → AllZip (Holds disk) opened files → RecoverLogs mode files text;
  damaged = λ text. AreRefused disk mode opened text;
}
