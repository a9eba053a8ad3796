use Rattle.std.proofs.Common.{◌<◌, ◌^◌, ◌++◌, IfOk, sym, subst, arith}
use Rattle.log_updates.specs.declared.reading.LogUpdates.{LogUpdates}
use Rattle.log_writer.specs.ReadableLogs.{batches_by, HoldInTurn}
use Rattle.log_updates.specs.Places.{StandsIn, HasAll}
use Rattle.log_updates.proofs.Errors.{if_ok}
use Rattle.log_updates.proofs.reading.updates_of_logs.Goals as goal

pub returns-clause-updates : goal.returns-clause-updates
returns-clause-updates g c = λ opened kept calls files before keeps wrote holds ordered stands none.
    let number = c.number-number.ensures in
    let in_turn = subst (λ n. HoldInTurn n files (kept ++ batches_by calls)) (sym number) (c.logs-logs.ensures.holds opened kept calls files keeps wrote holds) in
    let stood = subst (λ n. StandsIn n files c.args.from before) (sym number) stands in
    subst (λ n. IfOk c.read_on.result (HasAll n files c.args.since c.args.upto (kept ++ batches_by calls))) number
    (c.read_on.ensures.updates files (kept ++ batches_by calls) before holds in_turn ordered stood none)

pub returns-clause-place : goal.returns-clause-place
returns-clause-place g c =
    let many = c.logs-logs.ensures.many in
    let same = g.met.Log.ReadableLog.stays_many c.args.log.now c.read_on.new.log c.read_on.ensures.stays in
    if_ok (λ (r : LogUpdates). (r.place.log < c.logs-logs.result) × (r.place.at < 2 ^ 63)) (λ (r : LogUpdates). (r.place.log < g.Log.GroupLog.many c.read_on.new.log) × (r.place.at < 2 ^ 63)) c.read_on.result c.read_on.ensures.place
    (λ r p. ((let below = p.0 in omega (arith, many, same, below)), p.1))
