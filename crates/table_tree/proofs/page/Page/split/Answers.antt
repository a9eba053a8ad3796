-- The halves of a full page are pages, with the middle entry between them.
use Rattle.std.proofs.Common.{◌≡◌, length, vec_capacity, sym, ap, ◌∙◌, subst, arith}
use Rattle.table_nodes.specs.Chains.{AreSorted}
use Rattle.table_tree.specs.Pages.{Branch, woven}
use Rattle.table_tree.proofs.Kept.{kept_same}
use Rattle.table_tree.proofs.Halves.{taken_room, last_taken, lower_page, upper_page, split_of}
use Rattle.table_tree.proofs.page.Page.split.Goals as goal

-- where there is no memory for the pages below the upper half
pub invariant_of-self : goal.invariant_of-self
invariant_of-self c =
    let e = c.in_err-below.ensures {u = tt} in
    kept_same c.self.inside.families c.self.inside.entries c.self.inside.below c.self.invariant c.upper_half.new.below e.err e.capacity

pub invariant_of-self-2 : goal.invariant_of-self-2
invariant_of-self-2 c =
    let m = c.in-Some.middle in let entries = c.self.inside.entries in let below = c.self.inside.below in
    let full : length entries.items ≡ 31 = ap (λ (b : Branch). b.own) c.self.view_is ∙ c.requires.full in
    let sorted : AreSorted (woven below.items entries.items) = subst AreSorted (sym (ap (λ (b : Branch). b.chains) c.self.view_is)) c.requires.sorted in
    let popped = sym c.move_back.ensures.kept ∙ (c.in-Some.ensures {u = tt}).items in
    let last = last_taken 15 entries.items c.pop.new.self.items m (omega (arith, full)) popped in
    let half = c.in_ok-below.ensures {u = tt} in
    let moved = c.move_back.ensures.capacity.0 in let kept = c.pop.ensures.capacity in
    lower_page c.self.inside.families entries below c.self.invariant full sorted m last.0 c.cut_at.result.0 c.pop.new.self c.upper_half.new.below
    c.cut_at.ensures.lower.0 (c.cut_at.ensures.lower.1 ∙ c.family.ensures) last.1 half.lower (omega (arith, moved, kept))
    (taken_room below.items c.upper_half.new.below.items (vec_capacity below) (vec_capacity c.upper_half.new.below) half.lower half.capacity c.self.invariant.room_below)

pub invariant_of-page : goal.invariant_of-page
invariant_of-page c =
    let m = c.in-Some.middle in let entries = c.self.inside.entries in let below = c.self.inside.below in
    let full : length entries.items ≡ 31 = ap (λ (b : Branch). b.own) c.self.view_is ∙ c.requires.full in
    let sorted : AreSorted (woven below.items entries.items) = subst AreSorted (sym (ap (λ (b : Branch). b.chains) c.self.view_is)) c.requires.sorted in
    let popped = sym c.move_back.ensures.kept ∙ (c.in-Some.ensures {u = tt}).items in
    let last = last_taken 15 entries.items c.pop.new.self.items m (omega (arith, full)) popped in
    let half = c.in_ok-below.ensures {u = tt} in
    let wide = (c.in_ok-entries.ensures {u = tt}).capacity in let moved = c.move_back.ensures.capacity.1 in
    upper_page c.self.inside.families entries below c.self.invariant full sorted m last.0 c.cut_at.result.1 c.move_back.new.to c.in_ok-below.below
    (c.cut_at.ensures.upper.0 ∙ c.family.ensures) c.cut_at.ensures.upper.1 c.move_back.ensures.moved half.upper (omega (arith, wide, moved)) half.room

pub returns-clause-ok : goal.returns-clause-ok
returns-clause-ok c =
    let m = c.in-Some.middle in let entries = c.self.inside.entries in let below = c.self.inside.below in
    let full : length entries.items ≡ 31 = ap (λ (b : Branch). b.own) c.self.view_is ∙ c.requires.full in
    let sorted : AreSorted (woven below.items entries.items) = subst AreSorted (sym (ap (λ (b : Branch). b.chains) c.self.view_is)) c.requires.sorted in
    let popped = sym c.move_back.ensures.kept ∙ (c.in-Some.ensures {u = tt}).items in
    let last = last_taken 15 entries.items c.pop.new.self.items m (omega (arith, full)) popped in
    let half = c.in_ok-below.ensures {u = tt} in
    split_of c.self.inside.families entries below c.self.invariant full sorted m last.0 c.args.self.now c.pop.new.self.items c.move_back.new.to.items c.upper_half.new.below.items c.in_ok-below.below.items
    c.self.view_is last.1 half.lower c.move_back.ensures.moved half.upper
