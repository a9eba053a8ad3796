-- What was found so far is the newest of the versions that were passed.
use Rattle.std.proofs.Common.{◌≡◌, ◌≤◌, length}
use Rattle.std.specs.Option.{option_copied, option_map}
use Rattle.table_nodes.specs.Nodes.{at_key, version_of, versions_on}
use Rattle.table_nodes.specs.Newest.{newest_among}
use Rattle.table_nodes.proofs.chain.+newest_of.Given as goal

abbrev pub decreases-newest_of : goal.decreases-newest_of
decreases-newest_of l = length (versions_on (option_copied l.first))

abbrev pub invariant-loop-rest : goal.invariant-loop-rest
invariant-loop-rest l = record {
  same :
      newest_among (at_key l.family l.key) l.at (option_map version_of (option_copied l.newest)) (versions_on (option_copied l.rest))
      ≡ newest_among (at_key l.family l.key) l.at (option_map version_of (option_copied l.found)) (versions_on (option_copied l.first));
  fewer : length (versions_on (option_copied l.rest)) ≤ length (versions_on (option_copied l.first));
}

abbrev pub decreases-loop-rest : goal.decreases-loop-rest
decreases-loop-rest l = length (versions_on (option_copied l.rest))
