-- What the newest version says is what the map has.
use Rattle.std.proofs.Common.{Option, sym, ap, ◌∙◌, subst}
use Rattle.table_rule.specs.declared.content.Version.{Version}
use Rattle.table_rule.specs.Histories.{IsOrderUpTo}
use Rattle.table_nodes.specs.Chains.{versions_of}
use Rattle.table_nodes.specs.Newest.{said}
use Rattle.table_nodes.specs.Nodes.{at_key}
use Rattle.table_tree.specs.Shapes.{Shape, chains_below, versions_in, with_versions}
use Rattle.table_tree.specs.Newest.{newest_among}
use Rattle.table_tree.proofs.Folding.{value_is_newest}
use Rattle.table_tree.proofs.Waiting.{with_ordered, newest_of_all}
use Rattle.table_tree.proofs.Falling.{falling_of}
use Rattle.table_tree.proofs.tree.Tree.lookup.Goals as goal

pub returns-in-Some : goal.returns-in-Some
returns-in-Some c history h =
    let key = at_key c.args.family c.args.key.now in
    let root = c.self.inside.root in let late = c.self.inside.late in
    let versions = versions_of (chains_below root) in
    let over = subst (λ (s : Shape). IsOrderUpTo c.args.at (versions_in s) history) (sym c.self.view_is) h in
    c.value.ensures
    ∙ ap said (c.in-Some.ensures {u = tt} ∙ ap (λ (o : Option Version). newest_among key c.args.at o late) c.newest_below-found.ensures
    ∙ newest_of_all key c.args.at versions late c.self.invariant.ordered c.self.invariant.apart)
    ∙ sym (value_is_newest key c.args.at (with_versions versions late) history (with_ordered versions late c.self.invariant.ordered) over)

pub returns-in-None : goal.returns-in-None
returns-in-None c history h =
    let key = at_key c.args.family c.args.key.now in
    let root = c.self.inside.root in let late = c.self.inside.late in
    let versions = versions_of (chains_below root) in
    let over = subst (λ (s : Shape). IsOrderUpTo c.args.at (versions_in s) history) (sym c.self.view_is) h in
    ap said (c.in-None.ensures {u = tt} ∙ ap (λ (o : Option Version). newest_among key c.args.at o late) c.newest_below-found.ensures
    ∙ newest_of_all key c.args.at versions late c.self.invariant.ordered c.self.invariant.apart)
    ∙ sym (value_is_newest key c.args.at (with_versions versions late) history (with_ordered versions late c.self.invariant.ordered) over)

pub newest_below-found-requires-clause-falling : goal.newest_below-found-requires-clause-falling
newest_below-found-requires-clause-falling c = falling_of (chains_below c.self.inside.root) c.self.invariant.ordered c.self.invariant.keyed.each
