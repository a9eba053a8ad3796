use Rattle.std.proofs.Common.{◌≡◌, ◌+◌, ◌<◌, ◌≤◌, true, false, length, take, get_or, sym, ◌∙◌, arith, below_more}
use Rattle.std.proofs.lemmas.List.Sums.{sum_by_more}
use Rattle.model_base.specs.declared.group.Item.{Item}
use Rattle.model_base.specs.Grouping.{size_of, fits_at}
use Rattle.line_grouping.proofs.Places.{group_len_is, fits_at-by_sum, fits_below}
use Rattle.line_grouping.proofs.group.group_len.Goals as goal

pub overflow_add-sum : goal.overflow_add-sum
overflow_add-sum c =
    let queue = c.args.queue.now in
    let sum = c.loop-place.sum in
    let d : Item = record { size = 0; options = record { sync = false; no_log = false; no_slowdown = false }; alone = false } in
    let writer : Item = get_or queue c.loop-place.place d in
    let below : sum + writer.size ≤ c.args.max = fits_below c.args.max (get_or queue 0 d) (sum + writer.size) writer (sym c.fits.ensures ∙ c.if-not-fits.false) in
    let most = c.ranges.max in omega (arith, below)

pub returns-then-not-fits-clause-rule : goal.returns-then-not-fits-clause-rule
returns-then-not-fits-clause-rule c =
    let queue = c.args.queue.now in
    sym (group_len_is c.args.max queue c.loop-place.place (omega arith) (omega arith) (λ k some below. c.loop-place.invariant.1 k below some)
    (λ h. fits_at-by_sum c.args.max queue c.loop-place.place c.loop-place.sum _ h c.loop-place.invariant.0 ∙ sym c.fits.ensures ∙ c.if-not-fits.true))

pub loop-place-preserved : goal.loop-place-preserved
loop-place-preserved c =
    let queue = c.args.queue.now in
    let place = c.loop-place.place in
    let sum = c.loop-place.sum in
    let d : Item = record { size = 0; options = record { sync = false; no_log = false; no_slowdown = false }; alone = false } in
    let lt : place < length queue = omega arith in
    let joined : _ ≡ true = sym c.fits.ensures ∙ c.if-not-fits.false in
    let more : size_of (take (place + 1) queue) ≡ size_of (take place queue) + (get_or queue place d).size = sum_by_more (λ (i : Item). i.size) queue place d lt in
    let so_far : sum ≡ size_of (take place queue) = c.loop-place.invariant.0 in
    let here : 1 ≤ place → fits_at c.args.max queue place ≡ true = λ some. fits_at-by_sum c.args.max queue place sum d lt so_far ∙ joined in
    (omega (arith, more, so_far), below_more (λ k. 1 ≤ k → fits_at c.args.max queue k ≡ true) place c.loop-place.invariant.1 here)

pub returns-clause-rule : goal.returns-clause-rule
returns-clause-rule c =
    sym (group_len_is c.args.max c.args.queue.now (length c.args.queue.now) (omega arith) (omega arith)
    (λ k some below. c.loop-place.invariant.1 k (omega arith) some) (λ h. absurd (omega arith)))
