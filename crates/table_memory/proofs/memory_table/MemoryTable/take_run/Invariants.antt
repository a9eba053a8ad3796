use Rattle.std.proofs.Common.{◌≡◌, ◌++◌, length, reverse}
use Rattle.table_rule.specs.Steps.{AreOfShard}
use Rattle.table_memory.specs.Meaning.{opening_of}
use Rattle.table_memory.proofs.memory_table.MemoryTable.take_run.Given as goal

-- the nodes were those that are taken, and then those that are left
abbrev pub invariant-loop-nodes : goal.invariant-loop-nodes
invariant-loop-nodes l = (l.fn.nodes ≡ reverse l.turned ++ l.nodes) × AreOfShard (opening_of l.self).shards l.shard (reverse l.turned)

abbrev pub decreases-loop-nodes : goal.decreases-loop-nodes
decreases-loop-nodes l = length l.nodes
