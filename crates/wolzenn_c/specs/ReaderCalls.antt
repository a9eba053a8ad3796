-- What the functions for a reader give to C.
use Rattle.std.specs.Prelude.{◌≡◌, ℕ, ◌==◌, false, List, length, Option, Some, None, if◌then◌else◌}
use Rattle.log_reader.specs.declared.reader.Next.{Next}
use Rattle.log_reader.specs.declared.reader.Next.TheVariants as next
use Rattle.log_reader.specs.Reader.{Follows}
use Rattle.wolzenn_c.specs.declared.codes.TheConstants.{DONE, END, NO_MEMORY}
use Rattle.wolzenn_c.specs.declared.codes.WzEnd.{WzEnd}
use Rattle.wolzenn_c.specs.declared.reader.WzRecord.{WzRecord}
use Rattle.log_in_memory.specs.declared.reading.Reading.{Reading}
use Rattle.log_in_memory.specs.Readings.{number_of, ReadsOn, ReadsSince}
use Rattle.wolzenn_c.specs.Reasons.{end_of}

-- a reader of a log with this number, or with none where it is 0: at the log's start, not stopped, and with no record
-- in hand
pub record IsOpened (number : ℕ) (r : Reading) : Type 0 where
  pub number_is : r.reader.number ≡ number_of number
  pub start : r.reader.place ≡ 0
  pub going : r.reader.stopped ≡ None
  pub no_record : r.has_record ≡ false
  pub follows : (file : List ℕ) → Follows file r.reader

-- An answer in numbers: its code, and C's record and end before the call and after it. The record has `len` bytes. A
-- fault has no code, and is never the answer.
abbrev pub Tells : Next → ℕ → WzRecord × WzEnd → ℕ → WzRecord × WzEnd → Type 0
Tells (next.Record start end) len before code after =
    (code ≡ DONE) × (after ≡ (record { start = start; end = end; len = len }, before.1))
Tells (next.End at why) len before code after = (code ≡ END) × (after ≡ (before.0, end_of at why))
Tells (next.Fault count) len before code after = ⊥
Tells next.NoMemory len before code after = (code ≡ NO_MEMORY) × (after ≡ before)

-- A reader has read on, and its answer is told. A record is in hand exactly where the code says that one was read.
pub record IsNext (file : List ℕ) (old new : Reading) (before : WzRecord × WzEnd) (code : ℕ)
    (after : WzRecord × WzEnd) : Type 0 where
  pub answer : Next
  pub reads : ReadsOn file old.reader new.reader answer
  pub tells : Tells answer (length new.reader.in_hand) before code after
  pub in_hand : new.has_record ≡ (code == DONE)

-- the record in hand, if there is one
abbrev pub record_of : Reading → Option (List ℕ)
record_of r = if r.has_record then Some r.reader.in_hand else None

-- the same at a place of a log
pub record IsOpenedAt (number place : ℕ) (file : List ℕ) (r : Reading) : Type 0 where
  pub number_is : r.reader.number ≡ number_of number
  pub there : r.reader.place ≡ place
  pub going : r.reader.stopped ≡ None
  pub no_record : r.has_record ≡ false
  pub follows : Follows file r.reader

-- a reader has read on from a sequence on, and its answer is told
pub record IsNextSince (file : List ℕ) (since : ℕ) (old new : Reading) (before : WzRecord × WzEnd) (code : ℕ)
    (after : WzRecord × WzEnd) : Type 0 where
  pub answer : Next
  pub reads : ReadsSince file since old.reader new.reader answer
  pub tells : Tells answer (length new.reader.in_hand) before code after
  pub in_hand : new.has_record ≡ (code == DONE)
