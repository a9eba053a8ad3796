use Rattle.std.proofs.Common.{◌≡◌, true, refl, sym, ◌∙◌, arith}
use Rattle.run_command_list.specs.Views.{command_of}
use Rattle.replay_plans.specs.Small.{fits}
use Rattle.replay_plans.proofs.SmallLemmas.{small_lines, small_next, small_end}
use Rattle.replay_plans.proofs.small.is_small.Goals as goal

pub returns-then-not-fits : goal.returns-then-not-fits
returns-then-not-fits c = (
  λ e. cc,
  λ small.
      let plan = c.args.plan.now in
      let x = command_of c.line-line.result.now in
      let from_here = c.loop-place.invariant.1 ((small_lines plan).1 small) in
      let does : fits x c.loop-place.size ≡ true = ((small_next plan c.loop-place.place c.loop-place.size x c.line-line.ensures).0 from_here).0 in
      sym c.if-not-fits.true ∙ c.fits.ensures ∙ does,
)

pub loop-place-preserved : goal.loop-place-preserved
loop-place-preserved c =
    let plan = c.args.plan.now in
    let x = command_of c.line-line.result.now in
    let next = small_next plan c.loop-place.place c.loop-place.size x c.line-line.ensures in
    rw c.size_after-size.ensures (
      λ s. c.loop-place.invariant.0 (next.1 (sym c.fits.ensures ∙ c.if-not-fits.false, s)),
      λ s. (next.0 (c.loop-place.invariant.1 s)).1,
    )

pub returns : goal.returns
returns c = (λ e. (small_lines c.args.plan.now).0 (c.loop-place.invariant.0 (small_end c.args.plan.now c.loop-place.place c.loop-place.size (omega arith))), λ small. refl)
