-- One more end of reading, and a new reader at a later place.
use Rattle.std.proofs.Common.{◌≡◌, ℕ, Bool, List, Option, Some, None}
use Rattle.model_base.specs.declared.log.EndReason.{EndReason}
use Rattle.model_base.specs.Reading.{ReadingEnds}
use Rattle.log_scan.specs.declared.scanner.Lost.{Lost}
use Rattle.log_scan.specs.Scanning.{Skips, not_skipped, skipped_first, skipped_again, Ends, first_end, later_place}

-- reading from `here` ended like this, and is tried again
pub skips_more : (number : Option ℕ) (goes_on : Bool) (file : List ℕ) (from here next : ℕ) (lost : Option Lost) (end : Lost) → Skips number goes_on file from here lost
    → ReadingEnds number file here end.at end.why → later_place number goes_on file end.at end.why ≡ Some next → Skips number goes_on file from next (Some (first_end lost end))
skips_more number goes_on file from here next None end not_skipped ends there = skipped_first ends there
skips_more number goes_on file from here next (Some lost) end skips ends there = skipped_again skips ends there

-- it ended like this, and isn't tried again
pub ends_there : (number : Option ℕ) (goes_on : Bool) (file : List ℕ) (from here at : ℕ) (why : EndReason) (lost : Option Lost) (end : Lost) → Skips number goes_on file from here lost
    → ReadingEnds number file here end.at end.why → later_place number goes_on file end.at end.why ≡ None → first_end lost end ≡ record { at = at; why = why } → Ends number goes_on file from at why
ends_there number goes_on file from here at why lost end skips ends no_more is_first =
    record { here = here; lost = lost; skips = skips; last = end; ends = ends; no_more = no_more; first_is = is_first }
