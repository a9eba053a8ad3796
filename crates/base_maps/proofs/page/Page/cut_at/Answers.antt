use Rattle.std.proofs.Common.{◌∙◌, ap, subst}
use Rattle.std.specs.List.{AllByRecursion}
use Rattle.base_maps.specs.Words.{bytes_of_pairs, IsShort}
use Rattle.base_maps.proofs.PageSteps.{AreSome, walk_fits, walk_shorter, cut_begun, cut_more, cut_made}
use Rattle.base_maps.proofs.page.Page.cut_at.Goals as goal

pub loop-after-init : goal.loop-after-init
loop-after-init c =
    let old = c.self.inside in
    cut_begun c.args.self.now c.deref-bytes.result.now (c.in_ok-rest.field-0-0.now, c.in_ok-rest.field-0-1.now) c.in_ok-rest.rest.now
    (subst (AllByRecursion IsShort) c.self.view_is old.holds.short) (c.deref-bytes.ensures.value ∙ old.holds.spelled ∙ ap bytes_of_pairs c.self.view_is) c.in_ok-rest.ensures

pub overflow_sub-bytes : goal.overflow_sub-bytes
overflow_sub-bytes c =
    let all = c.deref-bytes.result.now in let rest = c.loop-after.rest.now in
    let more = cut_more c.args.self.now all rest c.loop-after.invariant (c.in-Some.field-0-0.now, c.in-Some.field-0-1.now) c.in-Some.after.now c.in-Some.ensures in
    walk_fits AreSome c.args.self.now all c.in-Some.after.now more

pub returns-then-bytes-after : goal.returns-then-bytes-after
returns-then-bytes-after c =
    cut_made c.args.self.now c.deref-bytes.result.now c.loop-after.rest.now c.loop-after.invariant (c.in-Some.field-0-0.now, c.in-Some.field-0-1.now) c.in-Some.after.now c.in-Some.ensures

pub loop-after-smaller : goal.loop-after-smaller
loop-after-smaller c =
    walk_shorter AreSome c.args.self.now c.deref-bytes.result.now c.loop-after.rest.now c.loop-after.invariant (c.in-Some.field-0-0.now, c.in-Some.field-0-1.now) c.in-Some.after.now c.in-Some.ensures

pub loop-after-preserved : goal.loop-after-preserved
loop-after-preserved c =
    cut_more c.args.self.now c.deref-bytes.result.now c.loop-after.rest.now c.loop-after.invariant (c.in-Some.field-0-0.now, c.in-Some.field-0-1.now) c.in-Some.after.now c.in-Some.ensures
