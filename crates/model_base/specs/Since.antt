-- The records of the log from a sequence on, as `GetUpdatesSince` of RocksDB's include/rocksdb/db.h gives them.
use Rattle.std.specs.Prelude.{ℕ, ◌+◌, ◌-◌, Bool, not, ◌&&◌, List, [], ◌∷◌, ◌++◌, map, filter, nat_le, ◌==◌}
use Rattle.std.specs.List.{sum_by}
use Rattle.model_base.specs.Batch.{count_of}
use Rattle.model_base.specs.History.{Entry}
use Rattle.model_base.specs.LogContents.{record_of_entries}
use Rattle.model_base.specs.Recovery.{Logged, logged_bytes}

-- a read of the log: from which sequence on, up to which one, and the records that it gave
pub record LogRead : Type 0 where
  pub since : ℕ
  pub at : ℕ
  pub records : List (List ℕ)

-- a record of the log: its first sequence, how many it takes, and its bytes
pub record LogRecord : Type 0 where
  pub first : ℕ
  pub count : ℕ
  pub bytes : List ℕ

abbrev pub record_of_batch : Logged → LogRecord
record_of_batch b = record { first = b.first; count = count_of b.records; bytes = logged_bytes b }

-- the record of a group; a group has an entry
abbrev pub record_of_group : List Entry → LogRecord
record_of_group [] = record { first = 0; count = 0; bytes = [] }
record_of_group (e ∷ es) = record {
  first = e.first;
  count = sum_by (λ (x : Entry). x.count) (e ∷ es);
  bytes = record_of_entries (e ∷ es);
}

-- the records of a log: those that it kept, and then those of the groups that were written
abbrev pub records_in : List Logged → List (List Entry) → List LogRecord
records_in kept groups = map record_of_batch kept ++ map record_of_group groups

abbrev pub last_of : LogRecord → ℕ
last_of r = r.first + r.count - 1

-- the record takes sequences, the last of them is s or a later one, and it isn't above `at`
abbrev pub is_since : ℕ → ℕ → LogRecord → Bool
is_since s at r = not (r.count == 0) && nat_le s (last_of r) && nat_le (last_of r) at

-- the bytes of these records, in order
abbrev pub since : ℕ → ℕ → List LogRecord → List (List ℕ)
since s at records = map (λ (r : LogRecord). r.bytes) (filter (is_since s at) records)
