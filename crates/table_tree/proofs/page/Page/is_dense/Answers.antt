-- The pages below are at least half full.
use Rattle.std.proofs.Common.{subst}
use Rattle.table_tree.specs.Pages.{IsDense}
use Rattle.table_tree.proofs.Kept.{dense_of}
use Rattle.table_tree.proofs.page.Page.is_dense.Goals as goal

pub returns : goal.returns
returns c = subst IsDense c.self.view_is (dense_of c.self.inside.families c.self.inside.entries c.self.inside.below c.self.invariant)
