-- A change of the part that the key belongs to is the same change of all parts.
use Rattle.std.proofs.Common.{◌≡◌, ◌<◌, length, map, subst, sym, ap, ◌∙◌, arith, rules}
use Rattle.std.proofs.lemmas.Cmp.{nat_list_cmp_total}
use Rattle.model_base.specs.Map.{byte_order}
use Rattle.base_maps.specs.Parts.{all_in, AreInOrder, IsPartOf}
use Rattle.base_maps.proofs.Within.{sorted_put}
use Rattle.base_maps.proofs.PartSteps.{some_seen, order_seen, some_put, kept_same, kept_filled, changed_filled, changed_put, changed_count}
use Rattle.base_maps.proofs.part.insert_in.Goals as goal

pub insert-requires-clause-some : goal.insert-requires-clause-some
insert-requires-clause-some g c =
    let same : c.deref.result.now ≡ c.args.parts.now.items = search rules in
    let within : c.part_of-at.result < length c.args.parts.now.items = subst (λ l. c.part_of-at.result < length l) same c.part_of-at.ensures.within in
    some_seen g.P.Part.rows c.args.parts.now.items c.part_of-at.result c.index_mut.result.now within c.index_mut.ensures.value c.requires.filled

pub insert-requires-clause-order : goal.insert-requires-clause-order
insert-requires-clause-order g c =
    let same : c.deref.result.now ≡ c.args.parts.now.items = search rules in
    let within : c.part_of-at.result < length c.args.parts.now.items = subst (λ l. c.part_of-at.result < length l) same c.part_of-at.ensures.within in
    order_seen g.P.Part.rows c.args.parts.now.items c.part_of-at.result c.index_mut.result.now within c.index_mut.ensures.value c.requires.order

pub returns-in_err-added-clause-filled : goal.returns-in_err-added-clause-filled
returns-in_err-added-clause-filled g c =
    let same : c.deref.result.now ≡ c.args.parts.now.items = search rules in
    let within : c.part_of-at.result < length c.args.parts.now.items = subst (λ l. c.part_of-at.result < length l) same c.part_of-at.ensures.within in
    kept_filled g.P.Part.rows c.args.parts.now.items c.part_of-at.result c.index_mut.result.now c.insert.new.self within c.index_mut.ensures.value
    c.in_err-added.ensures.err c.requires.filled

pub returns-in_err-added-clause-err : goal.returns-in_err-added-clause-err
returns-in_err-added-clause-err g c =
    let same : c.deref.result.now ≡ c.args.parts.now.items = search rules in
    let within : c.part_of-at.result < length c.args.parts.now.items = subst (λ l. c.part_of-at.result < length l) same c.part_of-at.ensures.within in
    let kept = kept_same g.P.Part.rows c.args.parts.now.items c.part_of-at.result c.index_mut.result.now c.insert.new.self within c.index_mut.ensures.value
    c.in_err-added.ensures.err in
    search rules

pub make_room-requires-clause-filled : goal.make_room-requires-clause-filled
make_room-requires-clause-filled g c =
    let f = g.P.Part.rows in
    let same : c.deref.result.now ≡ c.args.parts.now.items = search rules in
    let within : c.part_of-at.result < length c.args.parts.now.items = subst (λ l. c.part_of-at.result < length l) same c.part_of-at.ensures.within in
    changed_filled f c.args.parts.now.items c.part_of-at.result c.index_mut.result.now c.insert.new.self within c.index_mut.ensures.value
    (subst (λ l. 0 < length l) (sym c.in_ok-added.ensures.ok) (some_put (f c.index_mut.result.now) c.args.key.now c.args.value.now)) c.requires.filled

pub make_room-requires-clause-order : goal.make_room-requires-clause-order
make_room-requires-clause-order g c =
    let f = g.P.Part.rows in
    let same : c.deref.result.now ≡ c.args.parts.now.items = search rules in
    let within : c.part_of-at.result < length c.args.parts.now.items = subst (λ l. c.part_of-at.result < length l) same c.part_of-at.ensures.within in
    let place : IsPartOf c.args.key.now (map f c.args.parts.now.items) c.part_of-at.result =
    subst (λ l. IsPartOf c.args.key.now (map f l) c.part_of-at.result) same c.part_of-at.ensures.place in
    subst AreInOrder
    (sym (changed_put f c.args.parts.now.items c.part_of-at.result c.index_mut.result.now c.insert.new.self within c.index_mut.ensures.value
    c.args.key.now c.args.value.now place c.in_ok-added.ensures.ok))
    (sorted_put byte_order nat_list_cmp_total (all_in (map f c.args.parts.now.items)) c.args.key.now c.args.value.now c.requires.order)

pub returns-clause-ok : goal.returns-clause-ok
returns-clause-ok g c =
    let f = g.P.Part.rows in
    let same : c.deref.result.now ≡ c.args.parts.now.items = search rules in
    let within : c.part_of-at.result < length c.args.parts.now.items = subst (λ l. c.part_of-at.result < length l) same c.part_of-at.ensures.within in
    let place : IsPartOf c.args.key.now (map f c.args.parts.now.items) c.part_of-at.result =
    subst (λ l. IsPartOf c.args.key.now (map f l) c.part_of-at.result) same c.part_of-at.ensures.place in
    c.make_room.ensures.same
    ∙ changed_put f c.args.parts.now.items c.part_of-at.result c.index_mut.result.now c.insert.new.self within c.index_mut.ensures.value
    c.args.key.now c.args.value.now place c.in_ok-added.ensures.ok

pub returns-clause-added : goal.returns-clause-added
returns-clause-added g c =
    let f = g.P.Part.rows in
    let same : c.deref.result.now ≡ c.args.parts.now.items = search rules in
    let within : c.part_of-at.result < length c.args.parts.now.items = subst (λ l. c.part_of-at.result < length l) same c.part_of-at.ensures.within in
    let roomy = ap (λ l. length l) c.make_room.ensures.same in
    let count = changed_count f c.args.parts.now.items c.part_of-at.result c.index_mut.result.now c.insert.new.self within c.index_mut.ensures.value in
    let added = c.in_ok-added.ensures.added in
    omega (arith, roomy, count, added)
