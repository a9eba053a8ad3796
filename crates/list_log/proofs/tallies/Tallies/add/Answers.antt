use Rattle.std.proofs.Common.{◌≡◌, ℕ, [], ◌∷◌, ◌++◌, length, Some, sym, ◌∙◌, ap, subst, arith}
use Rattle.std.proofs.lemmas.Grind.{common_steps}
use Rattle.std.specs.BTreeMap.{Updates}
use Rattle.list_log.specs.Places.{KnowsPlaces, kind_order}
use Rattle.list_log.specs.Totals.{counted, first_one}
use Rattle.list_log.specs.declared.tallies.Kind.{Kind}
use Rattle.list_log.proofs.Tallied.{counted_there, counted_new, places_stay, places_with_new}
use Rattle.list_log.proofs.tallies.Tallies.add.Goals as goal

pub count_one-requires : goal.count_one-requires
count_one-requires c =
    let d = first_one c.args.tag c.args.family in
    let found = sym (c.self.invariant (record { tag = c.args.tag; family = c.args.family })) ∙ sym c.in-Some.ensures.value in
    grind (arith, common_steps, (counted_there c.args.tag c.args.family c.self.inside.items.items c.in-Some.at.now d found).0)

pub invariant_of-self : goal.invariant_of-self
invariant_of-self c =
    let d = first_one c.args.tag c.args.family in
    subst (KnowsPlaces c.self.inside.places) (sym (c.count_one.ensures d)) (places_stay c.self.inside.places c.self.inside.items.items c.in-Some.at.now d c.self.invariant)

pub returns-in-Some-clause-ok : goal.returns-in-Some-clause-ok
returns-in-Some-clause-ok c =
    let d = first_one c.args.tag c.args.family in
    let found = sym (c.self.invariant (record { tag = c.args.tag; family = c.args.family })) ∙ sym c.in-Some.ensures.value in
    c.count_one.ensures d ∙ (sym (counted_there c.args.tag c.args.family c.self.inside.items.items c.in-Some.at.now d found).1 ∙ ap (counted c.args.tag c.args.family) c.self.view_is)

pub invariant_of-self-2 : goal.invariant_of-self-2
invariant_of-self-2 c =
    let kind : Kind = record { tag = c.args.tag; family = c.args.family } in
    let items = c.self.inside.items.items in
    let none = sym (c.self.invariant kind) ∙ sym c.in_default.ensures.value in
    let pushed : c.push.new.self.items ≡ items ++ first_one c.args.tag c.args.family ∷ [] = grind (arith, common_steps) in
    let last : c.len.result ≡ length items = grind (arith, common_steps) in
    subst (KnowsPlaces c.insert.new.self) (sym pushed)
    (places_with_new c.self.inside.places c.insert.new.self items kind c.self.invariant none (subst (λ (n : ℕ). Updates kind_order c.self.inside.places c.insert.new.self kind (Some n)) last c.in_ok-insert.ensures.updates))

pub returns-clause-ok : goal.returns-clause-ok
returns-clause-ok c =
    let none = sym (c.self.invariant (record { tag = c.args.tag; family = c.args.family })) ∙ sym c.in_default.ensures.value in
    let pushed : c.push.new.self.items ≡ c.self.inside.items.items ++ first_one c.args.tag c.args.family ∷ [] = grind (arith, common_steps) in
    pushed ∙ (sym (counted_new c.args.tag c.args.family c.self.inside.items.items none) ∙ ap (counted c.args.tag c.args.family) c.self.view_is)
