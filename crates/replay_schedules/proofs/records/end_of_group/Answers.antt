use Rattle.std.proofs.Common.{◌≡◌, length, take, ap, ◌∙◌, arith}
use Rattle.replay_schedules.specs.Records.{logged_in}
use Rattle.replay_schedules.proofs.RecordLemmas.{logged_few}
use Rattle.replay_schedules.proofs.records.end_of_group.Goals as goal

pub returns-then-found-count-clause-counted : goal.returns-then-found-count-clause-counted
returns-then-found-count-clause-counted c =
    let es = c.args.entries.now in
    let inv = c.loop-entry.invariant in
    let few = logged_few es c.loop-entry.end in
    let found : length (logged_in (take c.loop-entry.end es)) ≡ c.loop-entry.found = ap (λ n. length (logged_in (take n es))) inv.end_is ∙ inv.found_are in
    omega (arith, few, found, c.if-found-count.true)
