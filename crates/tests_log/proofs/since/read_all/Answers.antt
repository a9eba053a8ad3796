use Rattle.std.proofs.Common.{◌<◌, ◌^◌, ap, sym, subst, arith}
use Rattle.log_updates.specs.declared.places.LogPlace.{LogPlace}
use Rattle.tests_log.proofs.since.read_all.Goals as goal

pub updates_of_logs-requires-clause-there : goal.updates_of_logs-requires-clause-there
updates_of_logs-requires-clause-there g c =
    let first = ap (λ (p : LogPlace). p.log) c.start.ensures.first in
    let some = g.met.Log.ReadableLog.some_logs c.args.log.now in
    omega (arith, first, some)

pub updates_of_logs-requires-clause-small : goal.updates_of_logs-requires-clause-small
updates_of_logs-requires-clause-small g c = subst (λ (p : LogPlace). p.at < 2 ^ 63) (sym c.start.ensures.first) (omega arith)
