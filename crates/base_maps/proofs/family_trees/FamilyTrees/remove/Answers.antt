use Rattle.std.proofs.Common.{sym, ap, ◌∙◌, [], Option}
use Rattle.std.specs.Prelude.{Some, ◌≡◌}
use Rattle.std.specs.Map.{remove_entry}
use Rattle.std.specs.BTreeMap.{is_at}
use Rattle.std.specs.Option.{unwrap_or, option_copied_mut}
use Rattle.model_base.specs.Map.{Rows, byte_order}
use Rattle.base_maps.proofs.Families.{rows_at, with_first, take_first, set_other, take_other, no_other}
use Rattle.base_maps.proofs.family_trees.FamilyTrees.remove.Goals as goal
use Rattle.base_maps.proofs.family_trees.FamilyTrees.remove.Goals.{in-Some, in_default}

pub invariant_of-self : goal.invariant_of-self
invariant_of-self c = with_first _ _ _ c.self.invariant c.in_order.ensures

pub returns-then-family-eq0 : goal.returns-then-family-eq0
returns-then-family-eq0 c = take_first c.args.family c.args.key.now _ _ _ _ c.self.invariant c.self.view_is c.if-family-eq0.true c.remove.ensures

-- the rows of the family
there : (c : goal.Joined-get_mut) (map : _) → c.get_mut.result ≡ Some map → map.now ≡ rows_at c.args.family c.self.inside.others.entries
there c map is = ap (λ (o : Option Rows). unwrap_or o []) (ap option_copied_mut (sym is) ∙ c.get_mut.ensures.value)

pub invariant_of-self-2 : goal.invariant_of-self-2
invariant_of-self-2 c =
    elim c.match-get_mut.branch [
      | in-Some w ↦
          let h = c.get_mut.follows.holds w.remove-in-Some.new.self in
          rw w.self-inside-is (set_other c.args.family _ _ _ _ c.self.invariant h.0 h.1 w.in_order-in-Some.ensures)
      | in_default w ↦ rw (w.self-inside-is, c.get_mut.follows.holds-at-none) c.self.invariant
    ]

pub returns : goal.returns
returns c =
    elim c.match-get_mut.branch [
      | in-Some w ↦
          let h = c.get_mut.follows.holds w.remove-in-Some.new.self in
          rw w.self-inside-is (take_other c.args.family c.args.key.now _ _ _ _ _ c.self.invariant c.self.view_is c.if-family-eq0.false h.0
          (w.remove-in-Some.ensures ∙ ap (λ (r : Rows). remove_entry (is_at (byte_order c.args.key.now)) r) (there c w.in-Some.map w.in-Some.is)))
      | in_default w ↦
          rw (w.self-inside-is, c.get_mut.follows.holds-at-none) (no_other c.args.family c.args.key.now _ _ _ c.self.view_is c.if-family-eq0.false
          (sym c.get_mut.ensures.value ∙ ap option_copied_mut w.in_default.is))
    ]
