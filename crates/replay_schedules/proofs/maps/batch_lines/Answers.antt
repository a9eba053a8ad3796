use Rattle.std.proofs.Common.{◌≡◌, ◌+◌, ◌<◌, length, get_or, ap, ◌∙◌, arith}
use Rattle.replay_core.specs.Shown.{plans_in}
use Rattle.replay_schedules.specs.Maps.{records_added}
use Rattle.replay_schedules.proofs.MapLemmas.{batch_of}
use Rattle.replay_schedules.proofs.maps.batch_lines.Goals as goal

pub returns : goal.returns
returns c =
    let e = c.args.entry.now in
    let plans = plans_in c.args.state.now in
    let plan = c.in_ok-plan.plan.now in
    let place = c.in_ok-place.place in
    let number : e.client ≡ place + 1 = omega (arith, c.in_ok-place.ensures.0, c.in_ok-place.ensures.1) in
    let there : place < length plans = rw c.plans.ensures at c.in_ok-plan.ensures.lookup.3.0 in
    let is : plan ≡ get_or plans place plan = rw c.plans.ensures at (c.in_ok-plan.ensures.lookup.3.1 plan) in
    ap records_added c.lines_between.ensures ∙ batch_of plans e.client place plan c.lines.result.now e.batch number there is c.lines.ensures
