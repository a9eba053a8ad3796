-- The scans of a small log with a changed byte, and what its records show.
use Rattle.std.proofs.Common.{true, false, [], ◌∷◌, codes, drop, Some, None, refl}
use Rattle.std.proofs.Math.Dec.{lit≤, lit<}
use Rattle.model_base.specs.declared.log.Damage.TheVariants.{BadChecksum}
use Rattle.model_base.specs.declared.log.EndReason.TheVariants.{Clean, Broken}
use Rattle.model_base.specs.Log.{full, plain_log}
use Rattle.model_base.specs.Reading.{IsRecord, ReadingEnds, seen_within, clean, broken}
use Rattle.model_base.specs.Varint.{varint_within}
use Rattle.batch_operations.specs.Operations.{Operation, IsOperation}
use Rattle.batch_operations.specs.Shown.{ShownRecord, Shows}
use Rattle.batch_operations.specs.Shown as shows
use Rattle.log_scan.specs.Scanning.{IsScan, Scan, whole, unread, found_none, found_more, not_skipped, skipped_first}
use Rattle.log_scan.specs.declared.scanner.Unread.{Unread}
use Rattle.list_log.specs.Rows.{first_record, third_record, damaged_log}

-- ---- what is found

-- the stretch of the second record
abbrev pub stretch : Unread
stretch = record { from = 24; to = 48; at = 24; why = Broken BadChecksum }

-- up to the damage
abbrev pub found_before : Scan
found_before = record { items = whole 0 24 first_record ∷ []; at = 24; why = Broken BadChecksum }

-- in all
abbrev pub found_in_all : Scan
found_in_all = record { items = whole 0 24 first_record ∷ unread stretch ∷ whole 48 72 third_record ∷ []; at = 72; why = Clean }

first_is : IsRecord plain_log damaged_log 0 0 24 first_record
unfolding varint_within
first_is = record {
  fragments = record { kind = full; part = first_record } ∷ [];
  one = refl;
  stand = record { rest = drop 24 damaged_log; there = refl; fit = (lit≤ tt, tt) };
  starts = refl;
  ends = refl;
  bytes_are = refl;
  in_file = lit≤ tt;
}

third_is : IsRecord plain_log damaged_log 48 48 72 third_record
unfolding varint_within
third_is = record {
  fragments = record { kind = full; part = third_record } ∷ [];
  one = refl;
  stand = record { rest = []; there = refl; fit = (lit≤ tt, tt) };
  starts = refl;
  ends = refl;
  bytes_are = refl;
  in_file = lit≤ tt;
}

second_is_damaged : ReadingEnds plain_log damaged_log 24 24 (Broken BadChecksum)
unfolding varint_within seen_within
second_is_damaged = broken [] (record { begun = tt; stand = record { rest = drop 24 damaged_log; there = refl; fit = tt }; is_next = refl })

ends_clean : ReadingEnds plain_log damaged_log 72 72 Clean
unfolding varint_within seen_within
ends_clean = clean (record { begun = tt; stand = record { rest = []; there = refl; fit = tt }; is_next = refl })

pub list : IsScan plain_log false damaged_log found_before
list = record {
  place = 24;
  finds = found_more found_none not_skipped first_is;
  ends = record {
    here = 24;
    lost = None;
    skips = not_skipped;
    last = record { at = 24; why = Broken BadChecksum };
    ends = second_is_damaged;
    no_more = refl;
    first_is = refl;
  };
}

pub scan : IsScan plain_log true damaged_log found_in_all
unfolding varint_within seen_within
scan = record {
  place = 72;
  finds = found_more (found_more found_none not_skipped first_is) (skipped_first second_is_damaged refl) third_is;
  ends = record {
    here = 72;
    lost = None;
    skips = not_skipped;
    last = record { at = 72; why = Clean };
    ends = ends_clean;
    no_more = refl;
    first_is = refl;
  };
}

-- ---- what the two whole records show

abbrev first_put : Operation
first_put = record { tag = 1; family = None; strings = codes "a" ∷ codes "1" ∷ [] }

abbrev third_put : Operation
third_put = record { tag = 1; family = None; strings = codes "c" ∷ codes "3" ∷ [] }

abbrev pub first_shown : ShownRecord
first_shown = record { head = Some (record { sequence = 1; count = 1 }); operations = first_put ∷ []; fault = None }

abbrev pub third_shown : ShownRecord
third_shown = record { head = Some (record { sequence = 3; count = 1 }); operations = third_put ∷ []; fault = None }

first_is_operation : IsOperation first_put
first_is_operation = record { layout = record { names_family = false; strings = 2; counts = true }; known = refl; named = refl; family = tt; as_many = refl; short = (lit< tt, (lit< tt, tt)) }

third_is_operation : IsOperation third_put
third_is_operation = record { layout = record { names_family = false; strings = 2; counts = true }; known = refl; named = refl; family = tt; as_many = refl; short = (lit< tt, (lit< tt, tt)) }

pub first_shows : Shows first_record first_shown
unfolding varint_within
first_shows = shows.whole {operations = first_put ∷ []} {fault = None} (lit≤ tt) (record { rest = []; are = (first_is_operation, tt); spelled = refl; ends = refl })

pub third_shows : Shows third_record third_shown
unfolding varint_within
third_shows = shows.whole {operations = third_put ∷ []} {fault = None} (lit≤ tt) (record { rest = []; are = (third_is_operation, tt); spelled = refl; ends = refl })
