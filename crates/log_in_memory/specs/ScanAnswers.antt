-- What a scan of bytes in memory finds.
use Rattle.std.specs.Prelude.{◌≡◌, ℕ, List, Option, Some, None, ⊤}
use Rattle.model_base.specs.Reading.{IsRecord}
use Rattle.log_scan.specs.Scanner.{ScannerState, IsAt, unread_before}
use Rattle.log_scan.specs.Scanning.{Skips, Ends}
use Rattle.log_scan.specs.declared.scanner.Lost.{Lost}
use Rattle.log_scan.specs.declared.scanner.Unread.{Unread}
use Rattle.log_in_memory.specs.declared.scanning.Scanned.{Scanned}
use Rattle.log_in_memory.specs.declared.scanning.Scanned.TheVariants as scanned

-- the answer with which a scan has ended, by its last answer: after a record it goes on
abbrev pub ended_by : Option Scanned → Option Scanned
ended_by None = None
ended_by (Some (scanned.Record unread start end)) = None
ended_by (Some (scanned.End at why)) = Some (scanned.End at why)
ended_by (Some scanned.NoMemory) = Some scanned.NoMemory

abbrev pub IsUnended : Option Scanned → Type 0
IsUnended last = ended_by last ≡ None

-- A record was found, and is in hand: it is read from a place before which, from the scan's place on, no record reads.
-- The stretch between is told, if something there was tried.
pub record FindsNext (file : List ℕ) (old new : ScannerState) (unread : Option Unread) (start end : ℕ) : Type 0 where
  pub here : ℕ
  pub lost : Option Lost
  pub skips : Skips old.number old.goes_on file old.place here lost
  pub is : IsRecord old.number file here start end new.reader.in_hand
  pub stretch : unread ≡ unread_before lost old.place start
  pub place : new.place ≡ end
  pub is_at : IsAt file new

abbrev pub AnswersOn : List ℕ → ScannerState → ScannerState → Scanned → Type 0
AnswersOn file old new (scanned.Record unread start end) = FindsNext file old new unread start end
AnswersOn file old new (scanned.End at why) = Ends old.number old.goes_on file old.place at why
AnswersOn file old new scanned.NoMemory = ⊤

-- this holds where the scan goes on
abbrev pub WhereItScansOn : Scanned → Type 0 → Type 0
WhereItScansOn (scanned.Record unread start end) P = P
WhereItScansOn (scanned.End at why) P = ⊤
WhereItScansOn scanned.NoMemory P = ⊤

-- the record in hand, if the last answer was one
abbrev pub in_hand_after : Option Scanned → List ℕ → Option (List ℕ)
in_hand_after None bytes = None
in_hand_after (Some (scanned.Record unread start end)) bytes = Some bytes
in_hand_after (Some (scanned.End at why)) bytes = None
in_hand_after (Some scanned.NoMemory) bytes = None
