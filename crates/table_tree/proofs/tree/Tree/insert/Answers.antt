-- The version waits after the others, and then those that wait go into the tree one by one, as long as there is memory.
use Rattle.std.proofs.Common.{sym, ◌∙◌, subst}
use Rattle.table_nodes.specs.Chains.{versions_of}
use Rattle.table_nodes.specs.Nodes.{version_of}
use Rattle.table_tree.specs.Versions.{IsNew, AreOrdered}
use Rattle.table_tree.specs.Shapes.{Shape, chains_below, versions_in}
use Rattle.table_tree.proofs.Waiting.{with_ordered}
use Rattle.table_tree.proofs.Settling.{waits}
use Rattle.table_tree.proofs.tree.Tree.insert.Goals as goal

-- the tree as it is while the version waits
pub invariant_of-self : goal.invariant_of-self
invariant_of-self c =
    let v = version_of c.args.node.value in
    waits c.self.inside.root c.self.inside.late c.push_back.new.self v c.self.invariant
    (subst (λ (s : Shape). IsNew v (versions_in s)) (sym c.self.view_is) c.requires) c.push_back.ensures

pub returns-then-first-clause-ordered : goal.returns-then-first-clause-ordered
returns-then-first-clause-ordered c =
    subst AreOrdered (sym (c.settle-second.ensures.versions ∙ c.settle-first.ensures.versions))
    (with_ordered (versions_of (chains_below c.self.inside.root)) c.push_back.new.self c.self.invariant.ordered)

pub returns-else-first-clause-ordered : goal.returns-else-first-clause-ordered
returns-else-first-clause-ordered c =
    subst AreOrdered (sym (c.settle-second.ensures.versions ∙ c.settle-first.ensures.versions))
    (with_ordered (versions_of (chains_below c.self.inside.root)) c.push_back.new.self c.self.invariant.ordered)
