-- The nodes that are left, reversed, come before those that were moved.
use Rattle.std.proofs.Common.{◌≡◌, ◌++◌, length, reverse}
use Rattle.table_nodes.proofs.node.Nodes.push_all_newest.Given as goal

abbrev pub invariant-loop-node : goal.invariant-loop-node
invariant-loop-node l = reverse l.turned ++ l.self ≡ reverse l.initial.turned ++ l.initial.self

abbrev pub decreases-loop-node : goal.decreases-loop-node
decreases-loop-node l = length l.turned
