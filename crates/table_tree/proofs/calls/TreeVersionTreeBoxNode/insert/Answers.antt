-- A version whose sequence is new to its key is new, and is added to those that are there.
use Rattle.std.proofs.Common.{sym, subst}
use Rattle.table_rule.specs.Steps.{Adds}
use Rattle.table_tree.specs.Shapes.{versions_in}
use Rattle.table_nodes.specs.Nodes.{version_of}
use Rattle.table_tree.proofs.Adding.{apart_new, insert_adds}
use Rattle.table_tree.proofs.calls.TreeVersionTreeBoxNode.insert.Goals as goal

pub insert-requires : goal.insert-requires
insert-requires c = apart_new (version_of c.args.node.value) (versions_in c.args.self.now) c.requires

pub returns : goal.returns
returns c =
    let v = version_of c.args.node.value in
    let old = versions_in c.args.self.now in
    subst (Adds old v) (sym c.insert.ensures.versions) (insert_adds v old (apart_new v old c.requires))
