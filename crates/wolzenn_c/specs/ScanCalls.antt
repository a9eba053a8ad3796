-- What the functions for a scan give to C.
use Rattle.std.specs.Prelude.{◌≡◌, ℕ, true, List, length, Some, None}
use Rattle.log_scan.specs.Scanner.{IsAt}
use Rattle.log_scan.specs.declared.scanner.Unread.{Unread}
use Rattle.log_in_memory.specs.Readings.{number_of}
use Rattle.log_in_memory.specs.Scans.{ScansOn}
use Rattle.log_in_memory.specs.declared.scanning.Scan.{Scan}
use Rattle.log_in_memory.specs.declared.scanning.Scanned.{Scanned}
use Rattle.log_in_memory.specs.declared.scanning.Scanned.TheVariants as scanned
use Rattle.wolzenn_c.specs.declared.codes.TheConstants.{DONE, END, NO_MEMORY, UNREAD}
use Rattle.wolzenn_c.specs.declared.codes.WzEnd.{WzEnd}
use Rattle.wolzenn_c.specs.declared.reader.WzRecord.{WzRecord}
use Rattle.wolzenn_c.specs.declared.scan.WzUnread.{WzUnread}
use Rattle.wolzenn_c.specs.Reasons.{end_of}

-- a scan of this log from a place on, with this number, or with none where it is 0: it goes on after damage, and has
-- found nothing yet
pub record IsScanAt (number place : ℕ) (file : List ℕ) (s : Scan) : Type 0 where
  pub number_is : s.scanner.number ≡ number_of number
  pub goes_on : s.scanner.goes_on ≡ true
  pub there : s.scanner.place ≡ place
  pub new : s.last ≡ None
  pub is_at : IsAt file s.scanner

-- a stretch in numbers
abbrev pub unread_of : Unread → WzUnread
unread_of u = record { from = u.from; to = u.to; end = end_of u.at u.why }

-- C's record, stretch and end
abbrev pub Told : Type 0
Told = WzRecord × WzUnread × WzEnd

-- An answer in numbers: its code, and what C has before the call and after it. The record has `len` bytes.
abbrev pub TellsScan : Scanned → ℕ → Told → ℕ → Told → Type 0
TellsScan (scanned.Record None start end) len before code after =
    (code ≡ DONE) × (after ≡ (record { start = start; end = end; len = len }, before.1, before.2))
TellsScan (scanned.Record (Some u) start end) len before code after =
    (code ≡ UNREAD) × (after ≡ (record { start = start; end = end; len = len }, unread_of u, before.2))
TellsScan (scanned.End at why) len before code after = (code ≡ END) × (after ≡ (before.0, before.1, end_of at why))
TellsScan scanned.NoMemory len before code after = (code ≡ NO_MEMORY) × (after ≡ before)

-- a scan has found its next record, or its end, and that is told
pub record IsScanNext (file : List ℕ) (old new : Scan) (before : Told) (code : ℕ) (after : Told) : Type 0 where
  pub answer : Scanned
  pub scans : ScansOn file old new answer
  pub tells : TellsScan answer (length new.scanner.reader.in_hand) before code after
