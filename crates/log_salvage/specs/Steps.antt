-- One step of a salvage.
use Rattle.std.specs.Prelude.{◌≡◌, ℕ, List, Option, Some, None, Result, Ok, Err, ⊤}
use Rattle.base_devices.specs.Faults.{Rose}
use Rattle.log_scan.specs.Scanner.{FindsRecord, ScannerState}
use Rattle.log_scan.specs.Scanning.{Ends}
use Rattle.log_scan.specs.declared.scanner.Unread.{Unread}
use Rattle.log_salvage.specs.Keeping.{HasVerdict}
use Rattle.log_salvage.specs.NewLogs.{Adds, IsAddError, NewLogState}
use Rattle.log_salvage.specs.declared.keeping.LeftOut.{LeftOut}
use Rattle.log_salvage.specs.declared.keeping.Range.{Range}
use Rattle.log_salvage.specs.declared.new_log.AddError.{AddError}
use Rattle.log_salvage.specs.declared.new_log.AddError.TheVariants as failed
use Rattle.log_salvage.specs.declared.salvaging.Step.{Step}
use Rattle.log_salvage.specs.declared.salvaging.Step.TheVariants as step

-- the sequences whose records are kept, and the scanner of the damaged log
pub record SalvageState : Type 0 where
  pub range : Range
  pub scanner : ScannerState

-- a record was found, and is in hand
abbrev pub FindsOne : List ℕ → ScannerState → ScannerState → Type 0
FindsOne file old new = (stretch : Option Unread) × (start : ℕ) × (end : ℕ) × FindsRecord file old new stretch start end

-- What a step found in the file: the scanner's next record, or the end.
abbrev pub FindsStep : List ℕ → ScannerState → ScannerState → Step → Type 0
FindsStep file old new (step.Record stretch start end left_out) = FindsRecord file old new stretch start end
FindsStep file old new step.Passed = new.place ≡ old.place
FindsStep file old new (step.End at why) = Ends old.number old.goes_on file old.place at why
FindsStep file old new (step.Fault count) = ⊤
FindsStep file old new step.SinkFailed = FindsOne file old new
FindsStep file old new step.TooLong = FindsOne file old new
FindsStep file old new step.NoMemory = ⊤

-- a record was added to the new log, or left out for a reason
abbrev pub AddsUnless : Option LeftOut → List ℕ → NewLogState → NewLogState → Option (List ℕ) → Option (List ℕ) → Type 0
AddsUnless None bytes log now before after = Adds bytes log now before after
AddsUnless (Some why) bytes log now before after = (now ≡ log) × (after ≡ before)

-- What a step did to the new log with the record in hand: it was added if it is to be kept, and otherwise nothing was.
abbrev pub WritesStep : Range → List ℕ → NewLogState → NewLogState → Option (List ℕ) → Option (List ℕ) → Step → Type 0
WritesStep range bytes log now before after (step.Record stretch start end left_out) =
    HasVerdict range bytes left_out × AddsUnless left_out bytes log now before after
WritesStep range bytes log now before after step.SinkFailed =
    HasVerdict range bytes None × IsAddError bytes log now before after failed.SinkFailed
WritesStep range bytes log now before after step.TooLong =
    HasVerdict range bytes None × IsAddError bytes log now before after failed.TooLong
WritesStep range bytes log now before after other = (now ≡ log) × (after ≡ before)

-- the step that a record makes, by what became of it
abbrev pub step_with : Option Unread → ℕ → ℕ → Result (Option LeftOut) AddError → Step
step_with stretch start end (Ok left_out) = step.Record stretch start end left_out
step_with stretch start end (Err failed.SinkFailed) = step.SinkFailed
step_with stretch start end (Err failed.TooLong) = step.TooLong
step_with stretch start end (Err failed.NoMemory) = step.NoMemory

-- A count of faults rose with the fault that is answered, and stayed with any other answer. A fault of the disk is the
-- count that it then has.
abbrev pub HasCauses : ℕ → ℕ → ℕ → ℕ → Step → Type 0
HasCauses disk_before disk_now sink_before sink_now (step.Fault count) =
    Rose disk_before count × (count ≡ disk_now) × (sink_now ≡ sink_before)
HasCauses disk_before disk_now sink_before sink_now step.SinkFailed =
    (disk_now ≡ disk_before) × Rose sink_before sink_now
HasCauses disk_before disk_now sink_before sink_now other =
    (disk_now ≡ disk_before) × (sink_now ≡ sink_before)

-- this holds where the next step may be asked for
abbrev pub WhereItGoesOn : Step → Type 0 → Type 0
WhereItGoesOn (step.Record stretch start end left_out) P = P
WhereItGoesOn step.Passed P = P
WhereItGoesOn other P = ⊤
