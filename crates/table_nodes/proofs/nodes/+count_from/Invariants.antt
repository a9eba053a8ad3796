-- The nodes that are counted, and those that are left, are all of them.
use Rattle.std.proofs.Common.{◌≡◌, ◌+◌, length}
use Rattle.std.specs.Option.{option_copied}
use Rattle.table_nodes.specs.Nodes.{versions_on}
use Rattle.table_nodes.proofs.nodes.+count_from.Given as goal

abbrev pub decreases-count_from : goal.decreases-count_from
decreases-count_from l = length (versions_on (option_copied l.first))

abbrev pub invariant-loop-rest : goal.invariant-loop-rest
invariant-loop-rest l = l.count + length (versions_on (option_copied l.rest)) ≡ length (versions_on (option_copied l.first))

abbrev pub decreases-loop-rest : goal.decreases-loop-rest
decreases-loop-rest l = length (versions_on (option_copied l.rest))
