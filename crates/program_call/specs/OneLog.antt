-- One log: what a run finds in it and leaves in it, and what it recovers.
use Rattle.std.specs.Prelude.{◌≡◌, ◌≢◌, ◌⊎◌, ℕ, ◌<◌, List, length, Option, None, IfSome, IsSome}
use Rattle.std.specs.List.{AllByRecursion}
use Rattle.base_devices.specs.Disk.{Disk, Told}
use Rattle.base_devices.specs.declared.disk.Disk.{Ghosts}
use Rattle.model_base.specs.Calls as calls
use Rattle.model_base.specs.Recovery.{Recovered, IsRecovered}
use Rattle.model_base.specs.Script.{Script}
use Rattle.model_base.specs.Text.{recovered_text}
use Rattle.model_base.specs.declared.log.EndReason.{EndReason}
use Rattle.model_base.specs.declared.options.Options.{Options}
use Rattle.model_runs.specs.Refusals.{AreRefusedForThemselves}
use Rattle.log_recovery.specs.declared.modes.Mode.{Mode}
use Rattle.log_recovery.specs.declared.modes.Mode.TheVariants.{Point}
use Rattle.log_recovery.specs.Modes.{Accepts}
use Rattle.log_writer.specs.Opening.{LeavesAsBefore}
use Rattle.run_outcome.specs.declared.log_start.LogStart.{LogStart}
use Rattle.run_outcome.specs.declared.log_start.LogStart.TheVariants.{New, Behind}
use Rattle.run_outcome.specs.Running.{Execution, Before, GoesOnFrom, IsRunOf, LeavesSafeLog}
use Rattle.run_execution.specs.Ends.{IsAccepted, IsDamaged, HasFewFamilies, HasHighFamily, IsLeftAlone, LeavesAlone, execution_on}
use Rattle.program_text.specs.Refusals.{damage}
use Rattle.program_call.specs.Asking.{usual_options}
use Rattle.program_call.specs.Logs.{LogsOfRun, LogsToRecover}
use Rattle.program_call.specs.Outcomes.{AcceptsCommits, GivesUpdates, IsUnharmed}

-- The outcome of a run: it is legal, and the log was written by just the calls that wrote its history's groups. Where
-- no write of the log failed and no read of it, the disk has counted no fault in the run. Where the disk tells its
-- bytes, the run found the log empty, or wrote one with a number over what was there, or went on after what the log
-- recovered; and it left the batches of this outcome there. A crash at any moment of the run leaves a prefix to
-- recover: of these batches, or of what the run went on from, followed by these batches. What was safe of that stays.
pub record IsOutcome (execution : Execution) (opened ended : Option Disk) (o : calls.Outcome) : Type 0 where
  pub run : IsRunOf execution o
  pub counted : IsUnharmed o → execution.ended ≡ execution.settings.opened
  pub log : Told opened ended (LeavesSafeLog execution o run)

-- A call that should run a script over the log of this disk, which is opened as `start` says, in this mode if it is
-- resumed. The call leaves the disk `ended`.
module _ {D : Type 0} (disk : Ghosts D) (options : Options) (start : LogStart) (mode : Mode) (opened ended : D) where
  -- A script was run, and this is its outcome. If its log was resumed, the mode accepts the end of the log's recovery,
  -- no key that it recovers is in a family that no run is set up for, and the run went on from what the log recovers.
  -- If the log has no fault, commits were refused only for causes of their own; they were accepted unless a named cause
  -- holds, or found no memory. Reads of the log gave its records, unless a named cause holds, or found no memory.
  pub record RanOverLog (script : Script) (o : calls.Outcome) : Type 0 where
    pub accepted : IsAccepted start mode (disk.told opened)
    pub families : HasFewFamilies start (disk.told opened)
    pub before : Before
    pub goes_on : GoesOnFrom start (disk.told opened) before
    pub is_outcome : IsOutcome (execution_on disk options start before script opened ended) (disk.told opened)
        (disk.told ended) o
    pub refusals : o.fault ≡ None → AllByRecursion AreRefusedForThemselves o.transcripts
    pub accepts : AcceptsCommits (execution_on disk options start before script opened ended).settings script o
    pub gives : GivesUpdates o

  -- nothing was run: the disk was left alone, and a crash leaves no less
  pub record IsLeftLog : Type 0 where
    pub alone : IsLeftAlone start mode (disk.told opened) (disk.told ended)
    pub crash : LeavesAlone disk start mode opened ended

  -- The log should be a new one, but has so many bytes. It stays as it was, and a crash leaves no less.
  pub record HasBytes (len : ℕ) : Type 0 where
    pub is_new : start ≡ New
    pub some : 0 < len
    pub len_is : IfSome (disk.told opened) (λ d. length d.content ≡ len)
    pub as_before : disk.told ended ≡ disk.told opened
    pub crash : LeavesAsBefore disk opened ended

  -- The log should be resumed, but the mode doesn't accept that its recovery ends at this place for this reason. It
  -- stays as it was, and a crash leaves no less.
  pub record HasDamage (at : ℕ) (why : EndReason) : Type 0 where
    pub is_damaged : IsDamaged start mode (disk.told opened) at why
    pub as_before : disk.told ended ≡ disk.told opened
    pub crash : LeavesAsBefore disk opened ended

  -- The log should be resumed, and the mode accepts the end of its recovery, but this is the greatest family of the
  -- keys that it recovers, and no run is set up for it. It stays as it was, and a crash leaves no less.
  pub record NeedsFamily (family : ℕ) : Type 0 where
    pub is_high : HasHighFamily start mode (disk.told opened) family
    pub as_before : disk.told ended ≡ disk.told opened
    pub crash : LeavesAsBefore disk opened ended

  abbrev pub log_of_run : LogsOfRun
  log_of_run = record {
    failed = disk.faults opened;
    fails = disk.faults ended;
    told = IsSome (disk.told opened);
    fit = IfSome (disk.told opened) (λ d. (length d.content ≡ 0) ⊎ (start ≢ New));
    ran = λ script o. RanOverLog script o;
    untouched = ended ≡ opened;
    left_alone = IsLeftLog;
    not_empty = λ len. HasBytes len;
    damaged = λ at why. HasDamage at why;
    high_family = λ family. NeedsFamily family;
  }

-- the log of `gen`: a new one, with the usual options, where there are so many column families
abbrev pub log_of_generated : {D : Type 0} → Ghosts D → ℕ → D → D → LogsOfRun
log_of_generated disk families opened ended = log_of_run disk (usual_options families) New Point opened ended

-- the disk tells what it told before, and a crash leaves no less
abbrev pub IsOnlyRead : {D : Type 0} → Ghosts D → D → D → Type 0
IsOnlyRead disk opened ended = (disk.told ended ≡ disk.told opened) × LeavesAsBefore disk opened ended

-- This is the text of what the file recovers, as a log with this number or with none, and the mode accepts its end.
pub record Recovers (number : Option ℕ) (mode : Mode) (file text : List ℕ) : Type 0 where
  pub recovered : Recovered
  pub is_recovered : IsRecovered number file recovered
  pub accepted : Accepts number mode file recovered.at recovered.why
  pub text_is : text ≡ recovered_text recovered

-- A call that should say what the log of this disk recovers, read with this number or with none.
abbrev pub log_to_recover : {D : Type 0} → Ghosts D → Option ℕ → Mode → D → D → LogsToRecover
log_to_recover disk number mode opened ended = record {
  failed = disk.faults opened;
  fails = disk.faults ended;
  no_fault = disk.faults ended ≡ disk.faults opened;
  only_read = IsOnlyRead disk opened ended;
  recover = λ text. IfSome (disk.told opened) (λ d. Recovers number mode d.content text);
  damaged = λ text. (at : ℕ) × (why : EndReason) × IsDamaged (Behind number) mode (disk.told opened) at why
      × (text ≡ damage at why);
}
