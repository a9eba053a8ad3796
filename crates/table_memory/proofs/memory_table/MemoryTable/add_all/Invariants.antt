use Rattle.std.proofs.Common.{◌≡◌, List, [], length}
use Rattle.table_rule.specs.declared.content.Version.{Version}
use Rattle.table_rule.specs.declared.view.Launched.{Launched}
use Rattle.table_rule.specs.declared.view.Stage.TheVariants.{Holding}
use Rattle.table_rule.specs.Steps.{work}
use Rattle.table_calls.specs.Account.{Steps}
use Rattle.table_memory.specs.Meaning.{account_of, IsOurs}
use Rattle.table_memory.proofs.memory_table.MemoryTable.add_all.Given as goal

-- the nodes that are left are those that the client still has to insert
abbrev pub invariant-loop-shard : goal.invariant-loop-shard
invariant-loop-shard g l = IsOurs l.self l.seat
    × ((u : Launched) → (account_of l.fn.seat).stage ≡ Holding (work u [] l.fn.nodes)
    → (done : List Version) × Steps (account_of l.fn.seat) (Holding (work u done l.nodes)) (account_of l.seat))

abbrev pub decreases-loop-shard : goal.decreases-loop-shard
decreases-loop-shard g l = length l.nodes
