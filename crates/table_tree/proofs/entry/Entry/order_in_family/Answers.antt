-- The fronts decide, where they aren't the same.
use Rattle.std.proofs.Common.{◌≡◌, sym, ◌∙◌, ap, subst}
use Rattle.std.proofs.lemmas.Bool.{false≢true}
use Rattle.std.specs.Ordering.{is_ne}
use Rattle.base_keys.specs.Fronts.{front_of}
use Rattle.base_keys.proofs.Fronts.{ordered_by_fronts}
use Rattle.table_nodes.specs.Chains.{Chain, key_of}
use Rattle.table_tree.proofs.entry.Entry.order_in_family.Goals as goal

pub returns-then-is_ne : goal.returns-then-is_ne
returns-then-is_ne c =
    let front = c.self.inside.front in
    ordered_by_fronts 16 c.args.key.now (key_of c.args.self.now).bytes c.args.front front c.order-order.result
    (sym c.requires)
    (subst (λ (e : Chain). front_of 16 (key_of e).bytes ≡ front) c.self.view_is c.self.invariant)
    c.order-order.ensures
    (λ equal. false≢true (sym (c.if-is_ne.ensures {u = tt} ∙ ap is_ne equal)))
