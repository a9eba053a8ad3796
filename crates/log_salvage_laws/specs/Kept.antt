-- What is kept of a file.
use Rattle.std.specs.Prelude.{◌≡◌, ℕ, true, List, ◌∷◌, ◌++◌, Option}
use Rattle.log_scan.specs.Scanning.{IsScan, Scan}
use Rattle.log_salvage.specs.Keeping.{AreKept}
use Rattle.log_salvage.specs.declared.keeping.Range.{Range}

-- of a file, read with this number or with none, these records are kept
pub record Keeps (range : Range) (number : Option ℕ) (file : List ℕ) (records : List (List ℕ)) : Type 0 where
  pub scan : Scan
  pub is : IsScan number true file scan
  pub are : AreKept range scan.items records

-- this record is one of them
abbrev pub HasRecord : List ℕ → List (List ℕ) → Type 0
HasRecord bytes records = (front : List (List ℕ)) × (rest : List (List ℕ)) × (records ≡ front ++ bytes ∷ rest)
