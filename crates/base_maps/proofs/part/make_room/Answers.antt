-- The two parts that come of the one at this place have its pairs.
use Rattle.std.proofs.Common.{◌≡◌, ◌+◌, ◌<◌, length, map, subst, sym, ap, ◌∙◌, rules}
use Rattle.std.specs.List.{insert, slice_set}
use Rattle.base_maps.specs.Parts.{all_in, AreFilled, AreInOrder}
use Rattle.base_maps.proofs.PartSteps.{seen_at, seen_within, order_at, split_same, split_filled, kept_same, kept_filled}
use Rattle.base_maps.proofs.part.make_room.Goals as goal

pub split-requires : goal.split-requires
split-requires g c =
    let f = g.P.Part.rows in
    let ps = c.reserve.new.self.items in
    let same : ps ≡ c.args.parts.now.items = c.reserve.ensures.items in
    let within : c.args.at < length ps = subst (λ l. c.args.at < length l) (sym same) c.requires.within in
    let order : AreInOrder (all_in (map f ps)) = subst (λ l. AreInOrder (all_in (map f l))) (sym same) c.requires.order in
    subst AreInOrder (sym (seen_at f ps c.args.at c.index_mut.result.now within c.index_mut.ensures.value))
    (order_at (map f ps) c.args.at (seen_within f ps c.args.at within) order)

pub returns-else-is_err-2-clause-filled : goal.returns-else-is_err-2-clause-filled
returns-else-is_err-2-clause-filled g c =
    let f = g.P.Part.rows in
    let ps = c.reserve.new.self.items in
    let same : ps ≡ c.args.parts.now.items = c.reserve.ensures.items in
    let within : c.args.at < length ps = subst (λ l. c.args.at < length l) (sym same) c.requires.within in
    let filled : AreFilled (map f ps) = subst (λ l. AreFilled (map f l)) (sym same) c.requires.filled in
    let put : c.insert.new.self.items ≡ insert (slice_set ps c.args.at c.split.new.self) (c.args.at + 1) c.in-Some.upper = search rules in
    split_filled f ps c.insert.new.self.items c.args.at c.index_mut.result.now c.split.new.self c.in-Some.upper within c.index_mut.ensures.value put c.in-Some.ensures filled

pub returns-else-is_err-2-clause-same : goal.returns-else-is_err-2-clause-same
returns-else-is_err-2-clause-same g c =
    let f = g.P.Part.rows in
    let ps = c.reserve.new.self.items in
    let same : ps ≡ c.args.parts.now.items = c.reserve.ensures.items in
    let within : c.args.at < length ps = subst (λ l. c.args.at < length l) (sym same) c.requires.within in
    let filled : AreFilled (map f ps) = subst (λ l. AreFilled (map f l)) (sym same) c.requires.filled in
    let put : c.insert.new.self.items ≡ insert (slice_set ps c.args.at c.split.new.self) (c.args.at + 1) c.in-Some.upper = search rules in
    split_same f ps c.insert.new.self.items c.args.at c.index_mut.result.now c.split.new.self c.in-Some.upper within c.index_mut.ensures.value put c.in-Some.ensures filled
    ∙ ap (λ l. all_in (map f l)) same

pub returns-in_default-clause-filled : goal.returns-in_default-clause-filled
returns-in_default-clause-filled g c =
    let f = g.P.Part.rows in
    let ps = c.reserve.new.self.items in
    let same : ps ≡ c.args.parts.now.items = c.reserve.ensures.items in
    let within : c.args.at < length ps = subst (λ l. c.args.at < length l) (sym same) c.requires.within in
    let filled : AreFilled (map f ps) = subst (λ l. AreFilled (map f l)) (sym same) c.requires.filled in
    kept_filled f ps c.args.at c.index_mut.result.now c.split.new.self within c.index_mut.ensures.value c.in_default.ensures filled

pub returns-in_default-clause-same : goal.returns-in_default-clause-same
returns-in_default-clause-same g c =
    let f = g.P.Part.rows in
    let ps = c.reserve.new.self.items in
    let same : ps ≡ c.args.parts.now.items = c.reserve.ensures.items in
    let within : c.args.at < length ps = subst (λ l. c.args.at < length l) (sym same) c.requires.within in
    kept_same f ps c.args.at c.index_mut.result.now c.split.new.self within c.index_mut.ensures.value c.in_default.ensures
    ∙ ap (λ l. all_in (map f l)) same
