use Rattle.std.proofs.Common.{refl}
use Rattle.log_recovery.proofs.Telling.{from_start}
use Rattle.log_recovery.proofs.recovery.keep_log.Goals as goal

pub returns-clause-recovered : goal.returns-clause-recovered
returns-clause-recovered g c =
    let log = c.in_ok-log.ensures in
    from_start (g.R.ReadAt.held c.args.disk.now) c.args.number c.in_ok-log.log c.args.kept.now (record c.args.kept.now { end = 0 }) c.keep_records.new.kept c.keep_records.result log.number log.start log.follows refl refl refl refl c.keep_records.ensures.recovered
