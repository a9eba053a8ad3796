-- What comes after a node is shorter than the list that it begins.
use Rattle.std.proofs.Common.{length}
use Rattle.table_nodes.proofs.node.Nodes.+append.Given as goal

abbrev pub decreases-append : goal.decreases-append
decreases-append l = length l.self.now
