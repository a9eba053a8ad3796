-- The version goes into the tree, or back to those that wait.
use Rattle.std.proofs.Common.{List, drop, sym, ap, ◌∙◌, subst}
use Rattle.table_rule.specs.declared.content.Version.{Version}
use Rattle.table_nodes.specs.Chains.{versions_of}
use Rattle.table_nodes.specs.Nodes.{version_of}
use Rattle.table_tree.specs.Shapes.{Shape, IsKept, chains_below, versions_in, with_versions}
use Rattle.table_tree.proofs.Settling.{low_of, settled, settled_versions}
use Rattle.table_tree.proofs.tree.Tree.settle.Goals as goal

pub invariant_of-self-in_default-insert_below : goal.invariant_of-self-in_default-insert_below
invariant_of-self-in_default-insert_below c =
    settled c.self.inside.root c.insert_below.new.root (version_of c.in-Some.node.value) c.pop.new.self (subst (IsKept c.self.inside.root) (c.in-Some.ensures {u = tt}) c.self.invariant)
    c.insert_below.ensures.dense (c.in_default-insert_below.ensures {u = tt}).chains

pub returns-clause-versions : goal.returns-clause-versions
returns-clause-versions c =
    settled_versions c.self.inside.root c.insert_below.new.root (version_of c.in-Some.node.value) c.pop.new.self (subst (IsKept c.self.inside.root) (c.in-Some.ensures {u = tt}) c.self.invariant)
    c.insert_below.ensures.dense (c.in_default-insert_below.ensures {u = tt}).chains
    ∙ ap (λ late. with_versions (versions_of (chains_below c.self.inside.root)) late) (sym (c.in-Some.ensures {u = tt}))
    ∙ ap versions_in c.self.view_is

pub returns-clause-kept : goal.returns-clause-kept
returns-clause-kept c = ((invariant_of-self-in_default-insert_below c).keyed, low_of c.insert_below.new.root c.insert_below.ensures.dense)

pub returns-clause-waiting : goal.returns-clause-waiting
returns-clause-waiting c =
    ap (λ (l : List Version). drop 1 l) (sym (c.in-Some.ensures {u = tt})) ∙ ap (λ (s : Shape). drop 1 s.late) c.self.view_is
