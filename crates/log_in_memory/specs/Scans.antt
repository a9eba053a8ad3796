-- What a call of a scan of bytes in memory does.
use Rattle.std.specs.Prelude.{◌≡◌, ℕ, List, Option, Some, IfSome}
use Rattle.log_scan.specs.Scanner.{IsAt}
use Rattle.log_in_memory.specs.ScanAnswers.{AnswersOn, IsUnended, ended_by, in_hand_after}
use Rattle.log_in_memory.specs.declared.scanning.Scan.{Scan}
use Rattle.log_in_memory.specs.declared.scanning.Scanned.{Scanned}

-- A scan is asked for the next record of the file. Once it has ended it gives the same answer again.
pub record ScansOn (file : List ℕ) (old new : Scan) (answer : Scanned) : Type 0 where
  pub number : new.scanner.number ≡ old.scanner.number
  pub goes_on : new.scanner.goes_on ≡ old.scanner.goes_on
  pub last : new.last ≡ Some answer
  pub finds : IsUnended old.last → IsAt file old.scanner → AnswersOn file old.scanner new.scanner answer
  pub again : IfSome (ended_by old.last) (λ told. (answer ≡ told) × (new ≡ old))

-- the record in hand, if there is one
abbrev pub record_of_scan : Scan → Option (List ℕ)
record_of_scan s = in_hand_after s.last s.scanner.reader.in_hand
