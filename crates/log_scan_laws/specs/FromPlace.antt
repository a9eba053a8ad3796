-- A scan that begins at a place of a file, and what it finds.
use Rattle.std.specs.Prelude.{◌≡◌, ℕ, Bool, false, List, ◌∷◌, ◌++◌, Option}
use Rattle.model_base.specs.Log.{Fragment, record_of, next_place}
use Rattle.model_base.specs.Reading.{end_of}
use Rattle.log_scan.specs.Resuming.{is_compressed}
use Rattle.log_scan.specs.Scanning.{Item, Scan, Finds, Ends, whole}

-- all that is found from this place on, and the end; from the file's start that is a scan of the file (`IsScan`)
abbrev pub IsScanFrom : Option ℕ → Bool → List ℕ → ℕ → Scan → Type 0
IsScanFrom number goes_on file from scan = (place : ℕ) × Finds number goes_on file from scan.items place
    × Ends number goes_on file place scan.at scan.why

-- A scan from this place doesn't end at the first fragment of a compressed log: that is at the file's start alone.
abbrev pub PassesStart : List ℕ → ℕ → Type 0
PassesStart file from = from ≡ 0 → is_compressed file ≡ false

-- one of the items is the record of these fragments, which come from this place on, after those before them
abbrev pub HasRecord : Option ℕ → ℕ → List Fragment → List Fragment → List Item → Type 0
HasRecord number place before fragments items = (front rest : List Item) × (items ≡ front ++ whole
    (next_place number (end_of number place before)) (end_of number place (before ++ fragments))
    (record_of fragments) ∷ rest)
