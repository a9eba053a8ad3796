-- A group of batches, and the one record that it makes in the log.
use Rattle.std.specs.Prelude.{ℕ, List, length, map, flat_map}
use Rattle.std.specs.List.{sum_by}
use Rattle.model_base.specs.Batch.{Record, count_of, body, group_record}
use Rattle.log_batch.specs.Contents.{Contents}

-- the additions of each member
abbrev pub batches_of : List Contents → List (List Record)
batches_of members = map (λ (m : Contents). m.records) members

-- how many of the additions count; each of these takes a sequence
abbrev pub counts_of : List Contents → ℕ
counts_of members = sum_by (λ (m : Contents). count_of m.records) members

-- the bytes of the members after their headers, joined; and, below, how many bytes these are
abbrev pub bodies_of : List Contents → List ℕ
bodies_of members = flat_map (λ (m : Contents). body m.records) members

abbrev pub body_lens_of : List Contents → ℕ
body_lens_of members = sum_by (λ (m : Contents). length (body m.records)) members

-- the group's record, with the sequence of its first addition that counts
abbrev pub record_of_group : ℕ → List Contents → List ℕ
record_of_group first members = group_record first (batches_of members)
