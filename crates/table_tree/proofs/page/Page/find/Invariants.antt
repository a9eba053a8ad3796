-- The key's chain is in the page or below it, if there is one.
use Rattle.std.proofs.Common.{◌≡◌}
use Rattle.table_nodes.specs.Chains.{AreSorted}
use Rattle.table_nodes.specs.Nodes.{at_key}
use Rattle.table_tree.specs.Newest.{chain_at}
use Rattle.table_tree.proofs.page.Page.find.Given as goal

abbrev pub invariant-loop-at : goal.invariant-loop-at
invariant-loop-at l = record {
  sorted : AreSorted l.page.chains;
  same : chain_at (at_key l.family l.key) l.self.chains ≡ chain_at (at_key l.family l.key) l.page.chains;
}

abbrev pub decreases-loop-at : goal.decreases-loop-at
decreases-loop-at l = l.page.height
