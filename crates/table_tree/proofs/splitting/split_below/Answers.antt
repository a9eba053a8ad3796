-- The page at the place is sorted, and its halves and the entry between them come in its place.
use Rattle.std.proofs.Common.{sym, subst}
use Rattle.table_nodes.specs.Chains.{AreSorted}
use Rattle.table_tree.specs.Pages.{Branch}
use Rattle.table_tree.proofs.PageAt.{sorted_below}
use Rattle.table_tree.proofs.splitting.split_below.Goals as goal

pub split-requires-clause-sorted : goal.split-requires-clause-sorted
split-requires-clause-sorted c =
    subst (λ (b : Branch). AreSorted b.chains) (sym c.index_mut.ensures.value)
    (sorted_below c.args.entries.now.items c.args.below.now.items c.args.at c.index_mut.result.now c.requires.levels c.requires.within c.requires.sorted)
