-- What the definitions are where no record names a family: those of a store of one map, whose keys are bytes.
use Rattle.std.specs.Prelude.{◌≡◌, ℕ, ◌==◌, nat_lt, Bool, not, ◌&&◌, List, map, fold, Option, None, Some, if◌then◌else◌}
use Rattle.std.specs.Map.{remove_entry}
use Rattle.std.specs.BTreeMap.{insert_entry, is_at}
use Rattle.model_base.specs.declared.write.WriteOptions.{WriteOptions}
use Rattle.model_base.specs.declared.write.Refusal.{Refusal}
use Rattle.model_base.specs.declared.write.Refusal.TheVariants as no
use Rattle.model_base.specs.Batch.{Record, value, deletion, single_deletion, log_data, named_by, count_of, size_of_batch}
use Rattle.model_base.specs.Map.{Rows, Pairs, byte_order, key_at}

abbrev pub NamesNone : Record → Type 0
NamesNone r = named_by r ≡ None

-- the same rows as pairs of the default family
abbrev pub default_pairs : Rows → Pairs
default_pairs rows = map (λ r. (key_at 0 r.0, r.1)) rows

-- what records do to the one map
abbrev pub row_after : Rows → Record → Rows
row_after m (value family key v) = insert_entry byte_order m key v
row_after m (deletion family key) = remove_entry (is_at (byte_order key)) m
row_after m (single_deletion family key) = remove_entry (is_at (byte_order key)) m
row_after m (log_data blob) = m

abbrev pub rows_after : Rows → List Record → Rows
rows_after m records = fold row_after m records

-- the checks of a commit without that of its families
abbrev pub refused_early : ℕ → Bool → List Record → WriteOptions → Option Refusal
refused_early batch_bytes stopping records how =
    if count_of records == 0 then Some no.Empty
    else if nat_lt batch_bytes (size_of_batch records) then Some (no.TooLarge (size_of_batch records))
    else if how.sync && how.no_log then Some no.SyncWithoutLog
    else if stopping && not how.no_slowdown then Some no.SelfStop else None
