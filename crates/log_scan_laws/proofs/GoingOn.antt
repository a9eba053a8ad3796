-- A scan goes on where another one found its last record.
use Rattle.std.proofs.Common.{ℕ, Bool, List, ◌++◌, Option, sym, subst, append_assoc, append-nil}
use Rattle.log_scan.specs.Scanning.{Item, Scan, Finds, found_none, found_more, items_with}
use Rattle.log_scan_laws.specs.FromPlace.{IsScanFrom}

-- what is found up to a place, and from there on, is found one after the other
found_on : (number : Option ℕ) (goes_on : Bool) (file : List ℕ) (from middle place : ℕ) (items more : List Item) → Finds number goes_on file from items middle
    → Finds number goes_on file middle more place → Finds number goes_on file from (items ++ more) place
found_on number goes_on file from middle place items more before found_none = subst (λ (l : List Item). Finds number goes_on file from l middle) (sym (append-nil items)) before
found_on number goes_on file from middle place items more before (found_more {items = earlier} {place = p} {start = s} {end = e} {lost = lost} {bytes = bytes} found_before skipped is) =
    subst (λ (l : List Item). Finds number goes_on file from l e) (append_assoc items earlier (items_with lost p s e bytes))
    (found_more (found_on number goes_on file from middle p items earlier before found_before) skipped is)

pub scan_goes_on : (number : Option ℕ) (goes_on : Bool) (file : List ℕ) (from middle : ℕ) (items : List Item) (scan : Scan) → Finds number goes_on file from items middle
    → IsScanFrom number goes_on file middle scan → IsScanFrom number goes_on file from (record { items = items ++ scan.items; at = scan.at; why = scan.why })
scan_goes_on number goes_on file from middle items scan before is =
    (is.0, found_on number goes_on file from middle is.0 items scan.items before is.1, is.2)
