-- All that is kept of a file, and written to a new log.
use Rattle.std.specs.Prelude.{◌≡◌, ℕ, ◌+◌, ◌^◌, ◌<◌, ◌≤◌, true, List, [], ◌∷◌, ◌++◌, length, take, Option, Some, None}
use Rattle.std.specs.Io.KnownBytes.{Appends}
use Rattle.base_devices.specs.Faults.{Rose}
use Rattle.model_base.specs.Log.{SpellsWhole, text_from}
use Rattle.log_scan.specs.Scanning.{Item, Finds, IsScan}
use Rattle.log_salvage.specs.Counting.{AreCounts}
use Rattle.log_salvage.specs.Keeping.{AreKept}
use Rattle.log_salvage.specs.NewLogs.{NewLogState, longer, text_of}
use Rattle.log_salvage.specs.declared.counts.Counts.{Counts}
use Rattle.log_salvage.specs.declared.keeping.Range.{Range}
use Rattle.log_salvage.specs.declared.salvaged.Salvaged.{Salvaged}
use Rattle.log_salvage.specs.declared.salvaged.Salvaged.TheVariants as salvaged
use Rattle.log_salvage.specs.declared.salvaging.Step.{Step}
use Rattle.log_salvage.specs.declared.salvaging.Step.TheVariants as step

-- the bytes that records take at the end of the log
abbrev pub text_of_all : NewLogState → List (List ℕ) → List ℕ
text_of_all log records = text_from log.number log.len records

-- a damaged log: its number, if it has one, and its bytes
pub record Source : Type 0 where
  pub number : Option ℕ
  pub file : List ℕ

-- By a scan, which reads on after damage, these items are found up to a place, and of them these records are kept.
pub record AreFound (range : Range) (source : Source) (place : ℕ) (items : List Item) (records : List (List ℕ))
    : Type 0 where
  pub finds : Finds source.number true source.file 0 items place
  pub are : AreKept range items records

-- the new log, and the counts
pub record Written : Type 0 where
  pub log : NewLogState
  pub counts : Counts
  pub taken : Option (List ℕ)

-- The records that are kept of these items were added to the new log, and no others; the items were counted.
pub record AddsAll (range : Range) (source : Source) (place : ℕ) (items : List Item) (old new : Written) : Type 0 where
  pub records : List (List ℕ)
  pub found : AreFound range source place items records
  pub taken : Appends old.taken new.taken (text_of_all old.log records)
  pub log_is : new.log ≡ longer old.log (text_of_all old.log records)
  pub counted : AreCounts range old.counts items new.counts

-- the same of some front of what is found
abbrev pub AddsFront : Range → Source → Written → Written → Type 0
AddsFront range source old new = (place : ℕ) × (items : List Item) × AddsAll range source place items old new

-- The sink told all that it has taken, and that is the new log: it spells these records.
pub record HoldsLog (w : Written) (records : List (List ℕ)) : Type 0 where
  pub text : List ℕ
  pub taken : w.taken ≡ Some text
  pub len : w.log.len ≡ length text
  pub spelled : SpellsWhole w.log.number text records

-- after these items, of which these records are kept, this is the next one that is
abbrev pub IsKeptNext : Range → Source → List Item → List (List ℕ) → List ℕ → Type 0
IsKeptNext range source items records bytes = (place : ℕ) × (more : List Item)
    × AreFound range source place (items ++ more) (records ++ bytes ∷ [])

-- the sink took a part of a record's text, but not all, and nothing was counted
abbrev pub AddsPart : List ℕ → Written → Written → Type 0
AddsPart bytes before new = (new.counts ≡ before.counts) × (n : ℕ) × (n < length (text_of before.log bytes))
    × Appends before.taken new.taken (take n (text_of before.log bytes))

-- All that a scan finds was gone through. If the disk failed or memory ran out, that is so of a front of it; so it is if
-- with the next record the new log would be too long, or the sink failed at the next record.
abbrev pub AnswersSalvage : Range → Source → Written → Written → Salvaged → Type 0
AnswersSalvage range source old new (salvaged.All at why) = (place : ℕ) × (items : List Item)
    × AddsAll range source place items old new
    × IsScan source.number true source.file (record { items = items; at = at; why = why })
AnswersSalvage range source old new (salvaged.Fault count) = AddsFront range source old new
AnswersSalvage range source old new salvaged.NoMemory = AddsFront range source old new
AnswersSalvage range source old new salvaged.TooLong = (place : ℕ) × (items : List Item)
    × (adds : AddsAll range source place items old new) × (bytes : List ℕ)
    × IsKeptNext range source items adds.records bytes × (2 ^ 63 ≤ new.log.len + length (text_of new.log bytes))
AnswersSalvage range source old new salvaged.SinkFailed = (before : Written) × (place : ℕ) × (items : List Item)
    × (adds : AddsAll range source place items old before) × (bytes : List ℕ)
    × IsKeptNext range source items adds.records bytes × AddsPart bytes before new

abbrev pub HasSalvageCauses : ℕ → ℕ → ℕ → ℕ → Salvaged → Type 0
HasSalvageCauses disk_before disk_now sink_before sink_now (salvaged.Fault count) =
    Rose disk_before count × (count ≡ disk_now) × (sink_now ≡ sink_before)
HasSalvageCauses disk_before disk_now sink_before sink_now salvaged.SinkFailed =
    (disk_now ≡ disk_before) × Rose sink_before sink_now
HasSalvageCauses disk_before disk_now sink_before sink_now other =
    (disk_now ≡ disk_before) × (sink_now ≡ sink_before)

-- how a salvage ended with a step, if it did
abbrev pub ended : Step → Option Salvaged
ended (step.Record stretch start end left_out) = None
ended step.Passed = None
ended (step.End at why) = Some (salvaged.All at why)
ended (step.Fault count) = Some (salvaged.Fault count)
ended step.SinkFailed = Some salvaged.SinkFailed
ended step.TooLong = Some salvaged.TooLong
ended step.NoMemory = Some salvaged.NoMemory
