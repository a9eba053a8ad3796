-- From each place of a file there is a scan: each answer of reading is later than the one before, and the file has an
-- end.
use Rattle.std.proofs.Common.{◌≡◌, ℕ, zero, suc, ◌-◌, ◌<◌, ◌≤◌, Bool, List, [], ◌++◌, length, Option, Some, None, refl, arith}
use Rattle.model_base.specs.Reading.{ReadingEnds}
use Rattle.log_recovery_laws.specs.Reads.{AreBytes, found, ended}
use Rattle.log_recovery_laws.proofs.Reading.{Result, reads_some, record_long}
use Rattle.log_scan.specs.declared.scanner.Lost.{Lost}
use Rattle.log_scan.specs.Scanning.{Item, Scan, IsScan, Finds, found_none, found_more, Skips, not_skipped, items_with, first_end, later_place}
use Rattle.log_scan.proofs.Skipping.{skips_more, ends_there}
use Rattle.log_scan.proofs.Later.{is_later}
use Rattle.log_scan_laws.specs.FromPlace.{IsScanFrom}

abbrev AScan : Option ℕ → Bool → List ℕ → ℕ → Type 0
AScan number goes_on file from = (scan : Scan) × IsScanFrom number goes_on file from scan

-- what was found and skipped before this place
record Begun (number : Option ℕ) (goes_on : Bool) (file : List ℕ) (from here : ℕ) : Type 0 where
  items : List Item
  place : ℕ
  lost : Option Lost
  finds : Finds number goes_on file from items place
  skips : Skips number goes_on file place here lost

-- One more answer.
module _ (number : Option ℕ) (goes_on : Bool) (file : List ℕ) (from here : ℕ) (b : Begun number goes_on file from here) where
  -- how the scan continues from a later place
  GoOn : Type 0
  GoOn = (next : ℕ) → Begun number goes_on file from next → here < next → next ≤ length file → AScan number goes_on file from

  at_end : (end : Lost) → ReadingEnds number file here end.at end.why → GoOn → (again : Option ℕ) → later_place number goes_on file end.at end.why ≡ again → AScan number goes_on file from
  unfolding GoOn
  at_end end is go_on None none =
      let named = first_end b.lost end in (
        record { items = b.items; at = named.at; why = named.why },
        (b.place, b.finds, ends_there number goes_on file b.place here named.at named.why b.lost end b.skips is none refl),
      )
  at_end end is go_on (Some next) some =
      let later = is_later number goes_on file here end.at next end.why is some in
      go_on next (record { items = b.items; place = b.place; lost = Some (first_end b.lost end); finds = b.finds; skips = skips_more number goes_on file b.place here next b.lost end b.skips is some })
      later.0 (omega (arith, later.1))

  one_more : GoOn → Result number file here → AScan number goes_on file from
  unfolding GoOn
  one_more go_on (found start end bytes, is) =
      go_on end (record { items = b.items ++ items_with b.lost b.place start end bytes; place = end; lost = None; finds = found_more b.finds b.skips is; skips = not_skipped })
      (omega (arith, is.ends, record_long number here is.fragments is.one)) is.in_file
  one_more go_on (ended at why, is) = at_end (record { at = at; why = why }) is go_on (later_place number goes_on file at why) refl

scan_from : (number : Option ℕ) (goes_on : Bool) (file : List ℕ) (from : ℕ) → AreBytes file → (fuel here : ℕ) → Begun number goes_on file from here → length file - here < fuel → AScan number goes_on file from
unfolding GoOn
scan_from number goes_on file from are zero here b enough = absurd (omega (arith, enough))
scan_from number goes_on file from are (suc fuel) here b enough =
    one_more number goes_on file from here b (λ next more later within. scan_from number goes_on file from are fuel next more (omega (arith, enough, later, within))) (reads_some number file here are)

pub some_scan_from : (number : Option ℕ) (goes_on : Bool) (file : List ℕ) (from : ℕ) → AreBytes file → AScan number goes_on file from
some_scan_from number goes_on file from are =
    scan_from number goes_on file from are (suc (length file)) from (record { items = []; place = from; lost = None; finds = found_none; skips = not_skipped }) (omega arith)

pub some_scan : (number : Option ℕ) (goes_on : Bool) (file : List ℕ) → AreBytes file → (scan : Scan) × IsScan number goes_on file scan
some_scan number goes_on file are = of_file (some_scan_from number goes_on file 0 are)
  where
    of_file : AScan number goes_on file 0 → (scan : Scan) × IsScan number goes_on file scan
    of_file (scan, is) = (scan, record { place = is.0; finds = is.1; ends = is.2 })
