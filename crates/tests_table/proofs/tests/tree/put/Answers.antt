-- The version's sequence is above all others in the tree.
use Rattle.std.proofs.Common.{◌≡◌, ◌+◌, List, ◌∷◌, sym, subst, ap, ◌∙◌}
use Rattle.table_rule.specs.declared.content.Version.{Version}
use Rattle.table_nodes.specs.Nodes.{version_of}
use Rattle.table_tree.specs.Shapes.{versions_in}
use Rattle.table_tree.specs.Versions.{AreBelow, insert_version}
use Rattle.table_tree.proofs.Inserting.{new_above, below_next}
use Rattle.tests_table.proofs.tests.tree.put.Goals as goal

first_is : (v w : Version) (vs ws : List Version) → v ∷ vs ≡ w ∷ ws → v ≡ w
first_is v w vs ws e = cc

pub insert-requires : goal.insert-requires
insert-requires g c =
    let v : Version = version_of c.in-Some.node.value in
    let is = ap (λ (w : Version). w.sequence) (first_is v _ _ _ (sym c.in-Some.ensures ∙ c.node_of-nodes.ensures)) in
    new_above v (versions_in c.args.tree.now) (subst (λ n. AreBelow n (versions_in c.args.tree.now)) (sym is) c.requires.below)

pub returns : goal.returns
returns g c =
    let v : Version = version_of c.in-Some.node.value in
    let versions = versions_in c.args.tree.now in
    let is = ap (λ (w : Version). w.sequence) (first_is v _ _ _ (sym c.in-Some.ensures ∙ c.node_of-nodes.ensures)) in
    let next = below_next v versions (subst (λ n. AreBelow n versions) (sym is) c.requires.below) in
    subst (AreBelow (c.args.sequence + 1)) (sym c.insert.ensures.versions) (subst (λ n. AreBelow (n + 1) (insert_version versions v)) is next)
