use Rattle.log_writer.proofs.Beginning.{cut_fails, cut_synced}
use Rattle.log_writer.proofs.puts.keep.Goals as goal

pub returns-in_err-cut : goal.returns-in_err-cut
returns-in_err-cut g c =
    cut_fails g.D.Disk c.args.disk.now c.cut.new.self c.args.kept c.in_err-cut.field-0.0 c.from_residual.result (g.met.D.Disk.only_now c.args.disk.now) c.from_residual.ensures.0
    c.in_err-cut.ensures.cut c.in_err-cut.ensures.time c.in_err-cut.ensures.cause

pub returns : goal.returns
returns g c =
    cut_synced g.D.Disk c.args.disk.now c.cut.new.self c.sync.new.self c.args.kept c.in_ok-cut.field-0 c.sync.result (record { is_disk = g.met.D.Disk.is_disk; only_now = g.met.D.Disk.only_now }) c.requires.there
    c.in_ok-cut.ensures.cut c.in_ok-cut.ensures.counted c.in_ok-cut.ensures.time c.in_ok-cut.ensures.cause c.sync.ensures.synced c.sync.ensures.adds_none c.sync.ensures.time c.sync.ensures.cause
