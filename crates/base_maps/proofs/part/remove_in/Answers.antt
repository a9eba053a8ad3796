-- A removal from the part that the key belongs to is the same removal from all parts.
use Rattle.std.proofs.Common.{◌≡◌, ◌<◌, [], length, map, subst, sym, ap, ◌∙◌, arith, rules}
use Rattle.std.proofs.lemmas.List.{get_or-set_same}
use Rattle.base_maps.specs.Parts.{all_in, AreFilled, IsPartOf}
use Rattle.base_maps.proofs.PartSteps.{order_seen, none_left, some_left, emptied_same, emptied_filled, changed_filled, changed_cut, changed_count}
use Rattle.base_maps.proofs.part.remove_in.Goals as goal

pub remove-removed-requires : goal.remove-removed-requires
remove-removed-requires g c =
    let same : c.deref.result.now ≡ c.args.parts.now.items = search rules in
    let within : c.part_of-at.result < length c.args.parts.now.items = subst (λ l. c.part_of-at.result < length l) same c.part_of-at.ensures.within in
    order_seen g.P.Part.rows c.args.parts.now.items c.part_of-at.result c.index_mut.result.now within c.index_mut.ensures.value c.requires.order

pub returns-then-is_empty-2-clause-filled : goal.returns-then-is_empty-2-clause-filled
returns-then-is_empty-2-clause-filled g c =
    let f = g.P.Part.rows in
    let same : c.deref.result.now ≡ c.args.parts.now.items = search rules in
    let within : c.part_of-at.result < length c.args.parts.now.items = subst (λ l. c.part_of-at.result < length l) same c.part_of-at.ensures.within in
    subst (λ l. AreFilled (map f l)) (sym c.remove.ensures.items)
    (emptied_filled f c.args.parts.now.items c.part_of-at.result c.remove-removed.new.self within c.requires.filled)

pub returns-then-is_empty-2-clause-rows : goal.returns-then-is_empty-2-clause-rows
returns-then-is_empty-2-clause-rows g c =
    let f = g.P.Part.rows in
    let new = c.remove-removed.new.self in
    let same : c.deref.result.now ≡ c.args.parts.now.items = search rules in
    let within : c.part_of-at.result < length c.args.parts.now.items = subst (λ l. c.part_of-at.result < length l) same c.part_of-at.ensures.within in
    let place : IsPartOf c.args.key.now (map f c.args.parts.now.items) c.part_of-at.result =
    subst (λ l. IsPartOf c.args.key.now (map f l) c.part_of-at.result) same c.part_of-at.ensures.place in
    let here : c.index.result.now ≡ new = c.index.ensures ∙ get_or-set_same c.args.parts.now.items c.part_of-at.result new c.index.result.now within in
    let none : f new ≡ [] = ap f (sym here) ∙ none_left (f c.index.result.now) c.is_empty-2.result c.is_empty-2.ensures c.if-is_empty-2.true in
    ap (λ l. all_in (map f l)) c.remove.ensures.items
    ∙ emptied_same f c.args.parts.now.items c.part_of-at.result new within none
    ∙ changed_cut f c.args.parts.now.items c.part_of-at.result c.index_mut.result.now new within c.index_mut.ensures.value
    c.args.key.now place c.remove-removed.ensures.rows

pub returns-then-is_empty-2-clause-removed : goal.returns-then-is_empty-2-clause-removed
returns-then-is_empty-2-clause-removed g c =
    let f = g.P.Part.rows in
    let new = c.remove-removed.new.self in
    let same : c.deref.result.now ≡ c.args.parts.now.items = search rules in
    let within : c.part_of-at.result < length c.args.parts.now.items = subst (λ l. c.part_of-at.result < length l) same c.part_of-at.ensures.within in
    let here : c.index.result.now ≡ new = c.index.ensures ∙ get_or-set_same c.args.parts.now.items c.part_of-at.result new c.index.result.now within in
    let none : f new ≡ [] = ap f (sym here) ∙ none_left (f c.index.result.now) c.is_empty-2.result c.is_empty-2.ensures c.if-is_empty-2.true in
    let left = ap (λ l. length l)
    (ap (λ l. all_in (map f l)) c.remove.ensures.items ∙ emptied_same f c.args.parts.now.items c.part_of-at.result new within none) in
    let count = changed_count f c.args.parts.now.items c.part_of-at.result c.index_mut.result.now new within c.index_mut.ensures.value in
    let removed = c.remove-removed.ensures.removed in
    omega (arith, left, count, removed)

pub returns-else-is_empty-2-clause-filled : goal.returns-else-is_empty-2-clause-filled
returns-else-is_empty-2-clause-filled g c =
    let f = g.P.Part.rows in
    let new = c.remove-removed.new.self in
    let same : c.deref.result.now ≡ c.args.parts.now.items = search rules in
    let within : c.part_of-at.result < length c.args.parts.now.items = subst (λ l. c.part_of-at.result < length l) same c.part_of-at.ensures.within in
    let here : c.index.result.now ≡ new = c.index.ensures ∙ get_or-set_same c.args.parts.now.items c.part_of-at.result new c.index.result.now within in
    changed_filled f c.args.parts.now.items c.part_of-at.result c.index_mut.result.now new within c.index_mut.ensures.value
    (subst (λ p. 0 < length (f p)) here (some_left (f c.index.result.now) c.is_empty-2.result c.is_empty-2.ensures c.if-is_empty-2.false))
    c.requires.filled

pub returns-else-is_empty-2-clause-rows : goal.returns-else-is_empty-2-clause-rows
returns-else-is_empty-2-clause-rows g c =
    let f = g.P.Part.rows in
    let same : c.deref.result.now ≡ c.args.parts.now.items = search rules in
    let within : c.part_of-at.result < length c.args.parts.now.items = subst (λ l. c.part_of-at.result < length l) same c.part_of-at.ensures.within in
    let place : IsPartOf c.args.key.now (map f c.args.parts.now.items) c.part_of-at.result =
    subst (λ l. IsPartOf c.args.key.now (map f l) c.part_of-at.result) same c.part_of-at.ensures.place in
    changed_cut f c.args.parts.now.items c.part_of-at.result c.index_mut.result.now c.remove-removed.new.self within c.index_mut.ensures.value
    c.args.key.now place c.remove-removed.ensures.rows

pub returns-else-is_empty-2-clause-removed : goal.returns-else-is_empty-2-clause-removed
returns-else-is_empty-2-clause-removed g c =
    let f = g.P.Part.rows in
    let same : c.deref.result.now ≡ c.args.parts.now.items = search rules in
    let within : c.part_of-at.result < length c.args.parts.now.items = subst (λ l. c.part_of-at.result < length l) same c.part_of-at.ensures.within in
    let count = changed_count f c.args.parts.now.items c.part_of-at.result c.index_mut.result.now c.remove-removed.new.self within c.index_mut.ensures.value in
    let removed = c.remove-removed.ensures.removed in
    omega (arith, count, removed)
