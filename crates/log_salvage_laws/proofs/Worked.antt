-- What is kept of a small log with a changed byte.
use Rattle.std.proofs.Common.{refl}
use Rattle.model_base.specs.Log.{plain_log}
use Rattle.list_log.specs.Rows.{damaged_log}
use Rattle.list_log.proofs.ChangedByte.{first_shown, first_shows, found_in_all, scan, third_shown, third_shows}
use Rattle.log_salvage.specs.Keeping.{no_records, with_kept, with_left_out, with_stretch}
use Rattle.log_salvage_laws.specs.Kept.{Keeps}
use Rattle.log_salvage_laws.specs.Rows.{all_from, first_and_third, only_third}

pub kept_of_all : Keeps (all_from 0) plain_log damaged_log first_and_third
kept_of_all = record {
  scan = found_in_all;
  is = scan;
  are = with_kept (first_shown, first_shows, refl) (with_stretch (with_kept (third_shown, third_shows, refl) no_records));
}

-- the first one isn't in the range
pub kept_from_two : Keeps (all_from 2) plain_log damaged_log only_third
kept_from_two = record {
  scan = found_in_all;
  is = scan;
  are = with_left_out (first_shown, first_shows, refl) (with_stretch (with_kept (third_shown, third_shows, refl) no_records));
}
