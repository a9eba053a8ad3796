-- The map that batches make. Its keys are in column families, of which each is a map of its own (RocksDB wiki, "Column
-- Families"). A lookup treats a single deletion as a deletion (RocksDB wiki, "Single Delete").
use Rattle.std.specs.Prelude.{ℕ, max, not, ◌&&◌, ◌==◌, List, fold, map, filter, Bool, Option, None, Some, if◌then◌else◌}
use Rattle.std.specs.Option.{unwrap_or}
use Rattle.std.specs.Ordering.{nat_cmp, is_lt, ordering_then}
use Rattle.std.specs.Cmp.Lexicographic.{slice_cmp}
use Rattle.std.specs.declared.cmp.Ordering.{Ordering}
use Rattle.std.specs.Map.{lookup, remove_entry}
use Rattle.std.specs.BTreeMap.{insert_entry, is_at}
pub use Rattle.model_base.specs.declared.key.Key.{Key}
use Rattle.model_base.specs.Batch.{Record, value, deletion, single_deletion, log_data}

abbrev pub byte_order : List ℕ → List ℕ → Ordering
byte_order = slice_cmp nat_cmp

-- by family, and in a family in byte order
abbrev pub key_order : Key → Key → Ordering
key_order k l = ordering_then (nat_cmp k.family l.family) (byte_order k.bytes l.bytes)

-- keys with their values, in the order of the keys
abbrev pub Pairs : Type 0
Pairs = List (Key × List ℕ)

-- keys of one family with their values, in byte order
abbrev pub Rows : Type 0
Rows = List (List ℕ × List ℕ)

-- a record that names no family is about the default one, whose number is 0
abbrev pub family_of : Option ℕ → ℕ
family_of named = unwrap_or named 0

-- the default family needn't be named
abbrev pub named : ℕ → Option ℕ
named family = if family == 0 then None else Some family

-- a key of a family, and one of the family that a record names
abbrev pub key_at : ℕ → List ℕ → Key
key_at family key = record { family = family; bytes = key }

abbrev pub key_in : Option ℕ → List ℕ → Key
key_in family key = record { family = family_of family; bytes = key }

-- a value sets its key, a deletion or single deletion takes it out, log data does nothing
abbrev pub after_record : Pairs → Record → Pairs
after_record m (value family key v) = insert_entry key_order m (key_in family key) v
after_record m (deletion family key) = remove_entry (is_at (key_order (key_in family key))) m
after_record m (single_deletion family key) = remove_entry (is_at (key_order (key_in family key))) m
after_record m (log_data blob) = m

-- the map after all these records, in order
abbrev pub after_records : Pairs → List Record → Pairs
after_records m records = fold after_record m records

-- the greatest family that has a key, or 0 where there are no keys
abbrev pub greatest_family : Pairs → ℕ
greatest_family m = fold (λ n p. max n p.0.family) 0 m

-- the value of a key, if it has one
abbrev pub value_at : Pairs → Key → Option (List ℕ)
value_at m key = lookup (is_at (key_order key)) m

-- the value of a key of one family, if it has one
abbrev pub row_at : Rows → List ℕ → Option (List ℕ)
row_at rows key = lookup (is_at (byte_order key)) rows

-- the key is at or above lo, and below hi
abbrev pub is_between : List ℕ → List ℕ → List ℕ → Bool
is_between lo hi key = not (is_lt (byte_order key lo)) && is_lt (byte_order key hi)

-- the pairs of a family, by their keys there
abbrev pub rows_of : ℕ → Pairs → Rows
rows_of family m = map (λ p. (p.0.bytes, p.1)) (filter (λ p. p.0.family == family) m)

-- the pairs of a family whose keys are at or above lo, and below hi
abbrev pub rows_within : ℕ → List ℕ → List ℕ → Pairs → Rows
rows_within family lo hi m = filter (λ p. is_between lo hi p.0) (rows_of family m)
