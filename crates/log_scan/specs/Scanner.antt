-- A scanner, as callers see it.
use Rattle.std.specs.Prelude.{◌≡◌, ℕ, Bool, List, Option, Some, None, ⊤}
use Rattle.base_devices.specs.Faults.{Rose}
use Rattle.model_base.specs.Reading.{IsRecord}
use Rattle.log_reader.specs.Reader.{Reader, Follows}
use Rattle.log_scan.specs.declared.scanner.Found.{Found}
use Rattle.log_scan.specs.declared.scanner.Found.TheVariants as found
use Rattle.log_scan.specs.declared.scanner.Lost.{Lost}
use Rattle.log_scan.specs.declared.scanner.Unread.{Unread}
use Rattle.log_scan.specs.Scanning.{Skips, Ends, first_end, later_place}

-- whether it goes on after damage, the log's number, the place after the last record that it found, the one from which
-- it reads, where and why reading first ended between the two, and the reader
pub record ScannerState : Type 0 where
  pub goes_on : Bool
  pub number : Option ℕ
  pub place : ℕ
  pub here : ℕ
  pub lost : Option Lost
  pub reader : Reader

-- its reader hasn't stopped
pub record IsGoing (s : ScannerState) : Type 0 where
  pub going : s.reader.stopped ≡ None

-- the scanner is on this file, its reader is where it reads from, and between its two places no record reads
pub record IsAt (file : List ℕ) (s : ScannerState) : Type 0 where
  pub follows : Follows file s.reader
  pub there : s.reader.place ≡ s.here
  pub skips : Skips s.number s.goes_on file s.place s.here s.lost

-- the stretch before a record that begins at this place
abbrev pub unread_before : Option Lost → ℕ → ℕ → Option Unread
unread_before None from start = None
unread_before (Some lost) from start = Some (record { from = from; to = start; at = lost.at; why = lost.why })

-- A record was found, and is in hand.
pub record FindsRecord (file : List ℕ) (old new : ScannerState) (unread : Option Unread) (start end : ℕ) : Type 0 where
  pub is : IsRecord old.number file old.here start end new.reader.in_hand
  pub stretch : unread ≡ unread_before old.lost old.place start
  pub place : new.place ≡ end
  pub nothing_lost : new.lost ≡ None

abbrev pub AnswersScan : List ℕ → ScannerState → ScannerState → Found → Type 0
AnswersScan file old new (found.Record unread start end) = FindsRecord file old new unread start end
AnswersScan file old new found.Passed = new.place ≡ old.place
AnswersScan file old new (found.End at why) = Ends old.number old.goes_on file old.place at why
AnswersScan file old new (found.Fault count) = ⊤
AnswersScan file old new found.NoMemory = ⊤

-- the reader goes on at this place of the file
pub record Begins (file : List ℕ) (old new : ScannerState) (place : ℕ) (first : Lost) : Type 0 where
  pub follows : Follows file new.reader
  pub there : new.reader.place ≡ place
  pub here : new.here ≡ place
  pub lost : new.lost ≡ Some first
  pub place_is : new.place ≡ old.place

-- reading on from `here` ended like this, and is tried again at a later place, or isn't
abbrev pub Passes : List ℕ → ScannerState → ScannerState → Lost → Found → Type 0
Passes file old new end found.Passed = (place : ℕ)
    × (later_place old.number old.goes_on file end.at end.why ≡ Some place)
    × Begins file old new place (first_end old.lost end)
Passes file old new end (found.End at why) = (later_place old.number old.goes_on file end.at end.why ≡ None)
    × (first_end old.lost end ≡ record { at = at; why = why })
Passes file old new end (found.Fault count) = ⊤
Passes file old new end found.NoMemory = ⊤
Passes file old new end (found.Record unread start end_of_record) = ⊥

-- this holds where the scanner may be asked again
abbrev pub WhereItGoesOn : Found → Type 0 → Type 0
WhereItGoesOn (found.Record unread start end) P = P
WhereItGoesOn found.Passed P = P
WhereItGoesOn (found.End at why) P = ⊤
WhereItGoesOn (found.Fault count) P = ⊤
WhereItGoesOn found.NoMemory P = ⊤

-- A fault is one of the disk: its count of faults rose, and this is what it is. With any other answer the count is as
-- before.
abbrev pub HasFault : ℕ → ℕ → Found → Type 0
HasFault before now (found.Record unread start end) = now ≡ before
HasFault before now found.Passed = now ≡ before
HasFault before now (found.End at why) = now ≡ before
HasFault before now (found.Fault count) = Rose before count × (count ≡ now)
HasFault before now found.NoMemory = now ≡ before
