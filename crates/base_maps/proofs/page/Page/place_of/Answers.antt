use Rattle.std.proofs.Common.{◌∙◌, ap, subst, rules}
use Rattle.std.specs.List.{AllByRecursion}
use Rattle.base_maps.specs.Words.{bytes_of_pairs, IsShort}
use Rattle.base_maps.specs.Cuts.{AreBelow}
use Rattle.base_maps.proofs.PageSteps.{walk_shorter, search_begun, search_more, place_below, place_same, place_after}
use Rattle.base_maps.proofs.page.Page.place_of.Goals as goal

pub loop-own-init : goal.loop-own-init
loop-own-init c =
    let old = c.self.inside in
    search_begun c.args.key.now c.args.self.now c.deref-bytes.result.now
    (subst (AllByRecursion IsShort) c.self.view_is old.holds.short) (c.deref-bytes.ensures.value ∙ old.holds.spelled ∙ ap bytes_of_pairs c.self.view_is)

pub returns-in-Less : goal.returns-in-Less
returns-in-Less c =
    place_below c.args.key.now c.args.self.now c.deref-bytes.result.now c.loop-own.rest.now c.loop-own.invariant (c.in-Some.own.now, c.in-Some.value.now) c.in-Some.after.now
    c.in-Some.ensures c.requires (search rules) c.split_at.result.0.now c.split_at.ensures.front

pub returns-in-Equal : goal.returns-in-Equal
returns-in-Equal c =
    place_same c.args.key.now c.args.self.now c.deref-bytes.result.now c.loop-own.rest.now c.loop-own.invariant (c.in-Some.own.now, c.in-Some.value.now) c.in-Some.after.now
    c.in-Some.ensures c.requires (search rules) c.split_at.result.0.now c.split_at.ensures.front

pub loop-own-smaller : goal.loop-own-smaller
loop-own-smaller c =
    walk_shorter (AreBelow c.args.key.now) c.args.self.now c.deref-bytes.result.now c.loop-own.rest.now c.loop-own.invariant (c.in-Some.own.now, c.in-Some.value.now) c.in-Some.after.now
    c.in-Some.ensures

pub loop-own-preserved : goal.loop-own-preserved
loop-own-preserved c =
    search_more c.args.key.now c.args.self.now c.deref-bytes.result.now c.loop-own.rest.now c.loop-own.invariant (c.in-Some.own.now, c.in-Some.value.now) c.in-Some.after.now
    c.in-Some.ensures (search rules)

pub returns : goal.returns
returns c =
    place_after c.args.key.now c.args.self.now c.deref-bytes.result.now c.loop-own.rest.now c.loop-own.invariant (search rules)
