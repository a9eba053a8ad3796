-- Which records of a damaged log are kept. The nearest in public is `ConvertLogToTable` of RocksDB's db/repair.cc: it
-- applies the batches of a log to a new table, one by one. There a batch of which only the front is known is applied in
-- part. Here a record is kept as it is, or left out.
use Rattle.std.specs.Prelude.{◌≡◌, ℕ, List, [], ◌∷◌, Option, Some, None, if◌then◌else◌}
use Rattle.model_base.specs.declared.batch.BatchError.{BatchError}
use Rattle.batch_operations.specs.Operations.{Operation}
use Rattle.batch_operations.specs.Shown.{ShownRecord, Shows, Have, with_count}
use Rattle.batch_operations.specs.declared.head.Head.{Head}
use Rattle.log_scan.specs.Scanning.{Item, whole, unread}
use Rattle.log_scan.specs.declared.scanner.Unread.{Unread}
use Rattle.list_log.specs.Wanted.{is_in_range}
use Rattle.log_salvage.specs.declared.keeping.LeftOut.{LeftOut}
use Rattle.log_salvage.specs.declared.keeping.LeftOut.TheVariants as left_out
use Rattle.log_salvage.specs.declared.keeping.Range.{Range}

-- Why a record with this head and this fault is left out, and `None` if it is kept. It is kept if it has no fault, so
-- that it is a whole batch of known operations, as many as its head says; and one of its sequences is in the range.
abbrev pub verdict_by : Range → Option Head → Option BatchError → Option LeftOut
verdict_by range head (Some error) = Some (left_out.NoBatch error)
verdict_by range head None = if is_in_range range.from range.to head then None else Some left_out.OutOfRange

abbrev pub verdict : Range → ShownRecord → Option LeftOut
verdict range shown = verdict_by range shown.head shown.fault

-- the same of the bytes of a record, which show one thing
abbrev pub HasVerdict : Range → List ℕ → Option LeftOut → Type 0
HasVerdict range bytes answer = (shown : ShownRecord) × Shows bytes shown × (answer ≡ verdict range shown)

-- the bytes after a head that says how many operations count have this fault, or none
abbrev pub HasFault : ℕ → List ℕ → Option BatchError → Type 0
HasFault said bytes fault = (operations : List Operation) × (broken : Option BatchError)
    × Have bytes operations broken × (fault ≡ with_count said operations broken)

-- Of these items these records are kept, verbatim and in this order.
pub data AreKept (range : Range) : List Item → List (List ℕ) → Type 0 where
  no_records : AreKept range [] []
  with_kept : {start end : ℕ} {bytes : List ℕ} {items : List Item} {records : List (List ℕ)}
      → HasVerdict range bytes None → AreKept range items records
      → AreKept range (whole start end bytes ∷ items) (bytes ∷ records)
  with_left_out : {start end : ℕ} {bytes : List ℕ} {items : List Item} {records : List (List ℕ)} {why : LeftOut}
      → HasVerdict range bytes (Some why) → AreKept range items records
      → AreKept range (whole start end bytes ∷ items) records
  with_stretch : {stretch : Unread} {items : List Item} {records : List (List ℕ)}
      → AreKept range items records → AreKept range (unread stretch ∷ items) records
