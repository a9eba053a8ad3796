use Rattle.std.proofs.Common.{◌≡◌, nat_lt, filter}
use Rattle.std.specs.List.Sorted.{IsPermutation}
use Rattle.model_base.specs.Map.{rows_within}
use Rattle.table_rule.specs.Histories.{map_after, shard_of_key}
use Rattle.table_tree.specs.Rows.{at_key}
use Rattle.table_memory.specs.Meaning.{opening_of, account_of, IsOurs}
use Rattle.table_memory.proofs.memory_table.MemoryTable.gather.Given as goal

-- the rows of the first shards
abbrev pub invariant-loop-shard : goal.invariant-loop-shard
invariant-loop-shard g l = IsOurs l.self l.seat × (account_of l.seat ≡ account_of l.fn.seat)
    × IsPermutation (filter (λ p. nat_lt (shard_of_key (opening_of l.self).shards (at_key l.family p.0)) l.shard) (rows_within l.family l.lo l.hi (map_after (opening_of l.self).base (account_of l.fn.seat).seen))) l.rows.items
