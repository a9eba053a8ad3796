-- The answer is in what is left, or else it is the best so far.
use Rattle.std.proofs.Common.{◌≡◌, length}
use Rattle.std.specs.Option.{option_copied, option_map}
use Rattle.table_nodes.specs.Chains.{Falls}
use Rattle.table_nodes.specs.Newest.{first_up_to}
use Rattle.table_nodes.specs.Nodes.{version_of, versions_on}
use Rattle.table_nodes.proofs.Forests.{or_else}
use Rattle.table_nodes.proofs.chain.newest_from.Given as goal

abbrev pub invariant-loop-rest : goal.invariant-loop-rest
invariant-loop-rest l = record {
  falls : Falls (versions_on (option_copied l.rest));
  same :
      or_else (first_up_to l.at (versions_on (option_copied l.rest))) (option_map version_of (option_copied l.best))
      ≡ first_up_to l.at (versions_on (option_copied l.first));
}

abbrev pub decreases-loop-rest : goal.decreases-loop-rest
decreases-loop-rest l = length (versions_on (option_copied l.rest))
