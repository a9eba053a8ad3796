-- How a run ends, and what is true then.
use Rattle.std.specs.Prelude.{◌≡◌, ◌≢◌, ◌⊎◌, ◌<◌, ◌≤◌, ◌+◌, ℕ, max, List, [], length, take, Option, None, IfSome, Vec, ⊤}
use Rattle.std.specs.declared.alloc.Global.{Global}
use Rattle.std.specs.List.{AllByRecursion}
use Rattle.base_devices.specs.Disk.{Disk, Told}
use Rattle.base_devices.specs.declared.disk.Disk.{Ghosts}
use Rattle.model_base.specs.Settings.{settings_of, with_kept}
use Rattle.model_base.specs.Calls as calls
use Rattle.model_base.specs.declared.limits.TheConstants.{MAX_FAMILIES}
use Rattle.model_base.specs.Map.{Pairs, greatest_family}
use Rattle.model_base.specs.declared.log.EndReason.{EndReason}
use Rattle.model_base.specs.declared.options.Options.{Options}
use Rattle.model_base.specs.Recovery.{Logged, Recovered, IsRecovered, recovered_map}
use Rattle.model_runs.specs.Crashes.{IsImageSince}
use Rattle.model_runs.specs.Refusals.{AreRefusedForThemselves}
use Rattle.run_outcome.specs.declared.log_start.LogStart.{LogStart}
use Rattle.run_outcome.specs.declared.log_start.LogStart.TheVariants.{New, Over, Behind}
use Rattle.run_outcome.specs.Running.{Execution, Before, GoesOnFrom, batches_told, beginning_of, IsRunOf, LeavesSafeLog, HasRun, IsAsFound, IsReached}
use Rattle.log_recovery.specs.declared.modes.Mode.{Mode}
use Rattle.log_recovery.specs.declared.modes.Mode.TheVariants.{Point}
use Rattle.log_recovery.specs.Modes.{Accepts, IsDamage}
use Rattle.log_writer.specs.declared.errors.OpenError.{OpenError}
use Rattle.log_writer.specs.declared.errors.OpenError.TheVariants as why
use Rattle.log_writer.specs.declared.writer.LogWriter.{LogWriter}
use Rattle.log_writer.specs.Words.{disk_of, len_of, fault_of}
use Rattle.log_writer.specs.Opening.{HasOpened, HasReused, HasResumed, LeavesOf, LeavesAsBefore}
use Rattle.log_writer.specs.Written.{IsWrittenFrom, IsLeftSince, Wrote}
use Rattle.run_threads.specs.declared.run.ClientsEnd.{ClientsEnd}
use Rattle.run_threads.specs.declared.run.ClientsEnd.TheVariants as clients
use Rattle.run_threads.specs.Runs.{ComesTo, outcome_with}
use Rattle.run_execution.specs.declared.opening.Opened.{Opened}
use Rattle.run_execution.specs.declared.end.RunEnd.{RunEnd}
use Rattle.run_execution.specs.declared.end.RunEnd.TheVariants as end

-- how a run ends whose log was not opened
abbrev pub end_of : OpenError → RunEnd
end_of (why.Fault count) = end.DiskFault count
end_of (why.NotEmpty len) = end.NotEmpty len
end_of why.NoMemory = end.NoMemory

-- how a run over an opened log ended; there are no full logs, so the list of their lengths has no elements
abbrev pub IsEndOfRun : {D : Type 0} {ghosts : Ghosts D} → ClientsEnd (LogWriter D ghosts) → RunEnd → Type 0
IsEndOfRun (clients.NotRun log) told = told ≡ end.NoMemory
IsEndOfRun (clients.Untold log last) told = told ≡ end.NoOutcome
IsEndOfRun (clients.Told log last transcripts history state) told = (full_lens : Vec ℕ Global)
    × (full_lens.items ≡ [])
    × (told ≡ end.Ran (outcome_with transcripts history last state full_lens (len_of log) (fault_of log)))

-- A script was run, and this is its outcome. The log is that of the outcome, where the disk tells its content. Where
-- the log has no fault, commits were refused only for causes of their own.
pub record HasOutcome (execution : Execution) (old new : Option Disk) : Type 0 where
  pub outcome : calls.Outcome
  pub run : IsRunOf execution outcome
  pub refusals : outcome.fault ≡ None → AllByRecursion AreRefusedForThemselves outcome.transcripts
  pub log : Told old new (LeavesSafeLog execution outcome run)

-- The log was opened in one of three ways: a new one on an empty disk, one with a number over what is there, or one
-- that is resumed after the bytes that are kept.
abbrev pub HasOpenedAs : {D : Type 0} {ghosts : Ghosts D} → LogStart → Before → D → LogWriter D ghosts → Type 0
HasOpenedAs New before disk log = HasOpened disk log
HasOpenedAs (Over number) before disk log = HasReused disk number log
HasOpenedAs {ghosts = ghosts} (Behind number) before disk log = HasResumed disk (length before.kept) number log
    × IfSome (ghosts.told disk) (λ d. take (length before.kept) d.content ≡ before.kept)

-- These options; but their last sequence is that of what the run goes on from, where that one is greater, and there are
-- more families, where the keys that the run goes on from need more.
abbrev pub options_behind : Options → Before → Options
options_behind options before = record options {
  last = max options.last before.last;
  families = max options.families (greatest_family before.map + 1);
}

-- The clients of a script have run over this opened log, or none has. `opened` is how many faults the disk had counted
-- at its opening, `map` is the table's map then, and `kept` are the batches that the log had, where they are known.
abbrev pub HasRunOver : {D : Type 0} {ghosts : Ghosts D} → LogWriter D ghosts → Options → Pairs → ℕ
    → Option (List Logged) → List (List calls.Command) → ClientsEnd (LogWriter D ghosts) → Type 0
HasRunOver {D} {ghosts} log options map opened kept script ran =
    ComesTo (with_kept kept (settings_of options map (length script) opened)) script (Wrote log) fault_of
    (λ l. ghosts.faults (disk_of l)) ran

-- a run of a script with these options, whose log is opened as `start` says and which goes on from `before`; it begins
-- with the disk `old` and leaves the disk `new`
abbrev pub execution_on : {D : Type 0} → Ghosts D → Options → LogStart → Before → List (List calls.Command) → D → D
    → Execution
execution_on ghosts options start before script old new = record {
  settings = with_kept (batches_told (ghosts.told old) before)
      (settings_of (options_behind options before) before.map (length script) (ghosts.faults old));
  script = script;
  ended = ghosts.faults new;
  start = start;
  before = before;
  images = IsImageSince ghosts.moment ghosts.from ghosts.since old new;
  since = IsLeftSince ghosts (beginning_of start before) old new;
  wrote = IsWrittenFrom ghosts (beginning_of start before) old new;
}

-- The log was opened for a run that goes on from this map with this last sequence.
pub record IsOpenedFor {D : Type 0} (ghosts : Ghosts D) (start : LogStart) (disk : D) (opened : Opened D ghosts)
    : Type 0 where
  pub before : Before
  pub goes_on : GoesOnFrom start (ghosts.told disk) before
  pub is_opened : HasOpenedAs start before disk opened.log
  pub map : opened.map ≡ before.map
  pub last : opened.last ≡ before.last
  -- where the last sequence is 0, there are no keys
  pub none : before.last ≡ 0 → before.map ≡ []
  -- as many families as the keys need
  pub families : opened.families ≡ greatest_family before.map + 1

-- the file recovers to an end that the mode accepts
pub record HasAcceptedEnd (number : Option ℕ) (mode : Mode) (file : List ℕ) : Type 0 where
  pub recovered : Recovered
  pub is : IsRecovered number file recovered
  pub accepts : Accepts number mode file recovered.at recovered.why

-- where the log is resumed, the mode accepts the end of its recovery
abbrev pub IsAccepted : LogStart → Mode → Option Disk → Type 0
IsAccepted New mode told = ⊤
IsAccepted (Over number) mode told = ⊤
IsAccepted (Behind number) mode told = IfSome told (λ d. HasAcceptedEnd number mode d.content)

-- The log should be resumed, and the mode, which isn't the one that accepts any end, doesn't accept that its recovery
-- ends there for this reason.
abbrev pub IsDamaged : LogStart → Mode → Option Disk → ℕ → EndReason → Type 0
IsDamaged New mode told at why = ⊥
IsDamaged (Over number) mode told at why = ⊥
IsDamaged (Behind number) mode told at why =
    (mode ≢ Point) × IfSome told (λ d. IsDamage number mode d.content at why)

-- where the log is resumed, what it recovers has no key in a family that no run is set up for
abbrev pub HasFewFamilies : LogStart → Option Disk → Type 0
HasFewFamilies New told = ⊤
HasFewFamilies (Over number) told = ⊤
HasFewFamilies (Behind number) told = IfSome told (λ d. (recovered : Recovered)
    × IsRecovered number d.content recovered × (greatest_family (recovered_map recovered) < MAX_FAMILIES))

-- The log should be resumed, and the mode accepts the end of its recovery; but this is the greatest family of the keys
-- that it recovers, and no run is set up for it.
abbrev pub HasHighFamily : LogStart → Mode → Option Disk → ℕ → Type 0
HasHighFamily New mode told family = ⊥
HasHighFamily (Over number) mode told family = ⊥
HasHighFamily (Behind number) mode told family = (MAX_FAMILIES ≤ family)
    × IfSome told (λ d. (found : HasAcceptedEnd number mode d.content)
    × (family ≡ greatest_family (recovered_map found.recovered)))

-- the clients of a script ran, whether there was memory for the outcome or not
abbrev pub Ran : RunEnd → Type 0
Ran (end.DiskFault count) = ⊥
Ran (end.NotEmpty len) = ⊥
Ran (end.Damage at why) = ⊥
Ran (end.Family family) = ⊥
Ran end.NoMemory = ⊥
Ran end.NoOutcome = ⊤
Ran (end.Ran shown) = ⊤

-- The disk tells what it told before; or it is as the opening of the log leaves it. Of a log that should be resumed
-- that is so only where the mode accepts the end of its recovery, and runs are set up for the families of its keys.
abbrev pub IsLeftAlone : LogStart → Mode → Option Disk → Option Disk → Type 0
IsLeftAlone start mode old new = (new ≡ old)
    ⊎ (IsAccepted start mode old × HasFewFamilies start old × IsAsFound start old new)

-- What a crash may leave at any moment of a call in which nothing was run: only what it might have left before. Where
-- the log should be resumed, the mode accepts the end of its recovery, and runs are set up for the families of its
-- keys, the bytes that it doesn't keep may have been truncated; of what was safe, those that it keeps are still
-- certain to stay.
abbrev pub LeavesAlone : {D : Type 0} → Ghosts D → LogStart → Mode → D → D → Type 0
LeavesAlone ghosts New mode old new = LeavesAsBefore ghosts old new
LeavesAlone ghosts (Over number) mode old new = LeavesAsBefore ghosts old new
LeavesAlone ghosts (Behind number) mode old new = LeavesAsBefore ghosts old new
    ⊎ (IsAccepted (Behind number) mode (ghosts.told old)
    × HasFewFamilies (Behind number) (ghosts.told old)
    × ((before : Before) × GoesOnFrom (Behind number) (ghosts.told old) before
    × LeavesOf ghosts old new (length before.kept)))

module _ {D : Type 0} (ghosts : Ghosts D) (start : LogStart) (mode : Mode) (old new : D) where
  -- The log was not opened, or no client ran, and the run's end says why. The disk was left alone, and a crash leaves
  -- no less. Its count of faults is as before, unless the end is a fault.
  abbrev pub IsRefused : RunEnd → Type 0
  IsRefused (end.DiskFault count) = IsLeftAlone start mode (ghosts.told old) (ghosts.told new)
      × IsReached (ghosts.faults old) count (ghosts.faults new) × LeavesAlone ghosts start mode old new
  IsRefused (end.NotEmpty len) = (start ≡ New) × (0 < len)
      × IfSome (ghosts.told old) (λ d. length d.content ≡ len)
      × (ghosts.told new ≡ ghosts.told old) × (ghosts.faults new ≡ ghosts.faults old) × LeavesAsBefore ghosts old new
  IsRefused (end.Damage at why) = IsDamaged start mode (ghosts.told old) at why
      × (ghosts.told new ≡ ghosts.told old) × (ghosts.faults new ≡ ghosts.faults old) × LeavesAsBefore ghosts old new
  IsRefused (end.Family family) = HasHighFamily start mode (ghosts.told old) family
      × (ghosts.told new ≡ ghosts.told old) × (ghosts.faults new ≡ ghosts.faults old) × LeavesAsBefore ghosts old new
  IsRefused end.NoMemory = IsLeftAlone start mode (ghosts.told old) (ghosts.told new)
      × (ghosts.faults new ≡ ghosts.faults old) × LeavesAlone ghosts start mode old new
  IsRefused end.NoOutcome = ⊥
  IsRefused (end.Ran shown) = ⊥

  -- The run of a script on the disk `old` ends in this way, and leaves the disk `new`: it was refused, or there is an
  -- outcome, of a run that went on from what it had to go on from.
  module _ (options : Options) (script : List (List calls.Command)) where
    abbrev pub Went : (Execution → Type 0) → Type 0
    Went Ran = (before : Before) × GoesOnFrom start (ghosts.told old) before
        × Ran (execution_on ghosts options start before script old new)

    abbrev pub Ends : RunEnd → Type 0
    Ends (end.DiskFault count) = IsRefused (end.DiskFault count)
    Ends (end.NotEmpty len) = IsRefused (end.NotEmpty len)
    Ends (end.Damage at why) = IsRefused (end.Damage at why)
    Ends (end.Family family) = IsRefused (end.Family family)
    Ends end.NoMemory = IsRefused end.NoMemory
    Ends end.NoOutcome = Went (λ execution. HasOutcome execution (ghosts.told old) (ghosts.told new))
    Ends (end.Ran shown) = Went (λ execution. HasRun execution (ghosts.told old) (ghosts.told new) shown)

abbrev pub EndsOn : {D : Type 0} → Ghosts D → Options → LogStart → Mode → List (List calls.Command) → D → D → RunEnd
    → Type 0
EndsOn ghosts options start mode script old new end = Ends ghosts start mode old new options script end
