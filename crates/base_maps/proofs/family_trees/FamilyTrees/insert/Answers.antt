use Rattle.std.proofs.Common.{sym, ap, ◌∙◌, OnOk, OnErr, Result, Ok, Err}
use Rattle.std.specs.Option.{option_copied_mut}
use Rattle.base_maps.proofs.Families.{with_first, put_first, with_other, set_other, put_there, kept_there, put_new}
use Rattle.base_maps.proofs.family_trees.FamilyTrees.insert.Goals as goal

at_ok : {A E P Q : Type 0} → (r : Result A E) → (P → Q) → OnOk r P → OnOk r Q
at_ok (Ok x) f p = f p
at_ok (Err e) f p = tt

at_err : {A E P Q : Type 0} → (r : Result A E) → (P → Q) → OnErr r P → OnErr r Q
at_err (Ok x) f p = tt
at_err (Err e) f p = f p

pub invariant_of-self : goal.invariant_of-self
invariant_of-self c = with_first _ _ _ c.self.invariant c.in_order.ensures

pub returns-then-family-eq0-clause-ok : goal.returns-then-family-eq0-clause-ok
returns-then-family-eq0-clause-ok c =
    at_ok c.insert-result.result (λ e. put_first c.args.family c.args.key.now c.args.value.now _ _ _ _ c.self.invariant c.self.view_is c.if-family-eq0.true e) c.insert-result.ensures.ok

pub invariant_of-self-in-Some : goal.invariant_of-self-in-Some
invariant_of-self-in-Some c =
    let h = c.get_mut.follows.holds c.insert-result-in-Some.new.self in
    set_other c.args.family _ _ _ _ c.self.invariant h.0 h.1 c.in_order-in-Some.ensures

pub returns-in-Some-clause-ok : goal.returns-in-Some-clause-ok
returns-in-Some-clause-ok c =
    let h = c.get_mut.follows.holds c.insert-result-in-Some.new.self in
    let there = sym c.get_mut.ensures.value ∙ ap option_copied_mut c.in-Some.is in
    at_ok c.insert-result-in-Some.result (λ e. put_there c.args.family c.args.key.now c.args.value.now _ _ _ _ _ _ c.self.invariant c.self.view_is c.if-family-eq0.false there h.0 e)
    c.insert-result-in-Some.ensures.ok

pub returns-in-Some-clause-err : goal.returns-in-Some-clause-err
returns-in-Some-clause-err c =
    let h = c.get_mut.follows.holds c.insert-result-in-Some.new.self in
    let there = sym c.get_mut.ensures.value ∙ ap option_copied_mut c.in-Some.is in
    at_err c.insert-result-in-Some.result (λ e. kept_there c.args.family _ _ _ _ _ _ c.self.invariant c.self.view_is there h.0 e) c.insert-result-in-Some.ensures.err

pub invariant_of-self-2 : goal.invariant_of-self-2
invariant_of-self-2 c =
    with_other c.args.family _ _ _ _ c.self.invariant c.if-family-eq0.false (rw c.get_mut.follows.holds-at-none at c.in_ok-insert-2.ensures.entries)
    c.in_ok-insert-2.ensures.ordered c.in_order-2.ensures

pub returns : goal.returns
returns c =
    let none = sym c.get_mut.ensures.value ∙ ap option_copied_mut c.in_default.is in
    record {
      ok = put_new c.args.family c.args.key.now c.args.value.now _ _ _ _ _ c.self.invariant c.self.view_is c.if-family-eq0.false none
          (rw c.get_mut.follows.holds-at-none at c.in_ok-insert-2.ensures.entries) (rw c.new-map.ensures at c.in_ok-insert.ensures.ok);
      err = tt;
    }
