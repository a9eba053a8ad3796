-- What is left isn't longer than the whole list, so that the children of a node that is dropped are fewer than it.
use Rattle.std.proofs.Common.{◌≤◌, length}
use Rattle.table_nodes.proofs.node.Nodes.+drop.Given as goal

abbrev pub decreases-drop : goal.decreases-drop
decreases-drop l = length l.self

abbrev pub invariant-loop-self : goal.invariant-loop-self
invariant-loop-self l = length l.self ≤ length l.fn.self

abbrev pub decreases-loop-self : goal.decreases-loop-self
decreases-loop-self l = length l.self
