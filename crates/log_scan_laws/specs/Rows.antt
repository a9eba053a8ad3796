-- What is found in a log of three records, of which the second one is damaged. The log is that of the rows of `list_log`.
use Rattle.std.specs.Prelude.{[], ◌∷◌}
use Rattle.model_base.specs.declared.log.Damage.TheVariants.{BadChecksum}
use Rattle.model_base.specs.declared.log.EndReason.TheVariants.{Clean, Broken}
use Rattle.log_scan.specs.Scanning.{Scan, whole, unread}
use Rattle.list_log.specs.Rows.{first_record, third_record}

-- up to the damage
abbrev pub found_before : Scan
found_before = record { items = whole 0 24 first_record ∷ []; at = 24; why = Broken BadChecksum }

-- in all: the second record doesn't read, and the third one does
abbrev pub found_in_all : Scan
found_in_all = record {
  items = whole 0 24 first_record ∷ unread (record { from = 24; to = 48; at = 24; why = Broken BadChecksum })
      ∷ whole 48 72 third_record ∷ [];
  at = 72;
  why = Clean;
}
