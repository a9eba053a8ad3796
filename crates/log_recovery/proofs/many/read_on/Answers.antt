use Rattle.std.proofs.Common.{arith}
use Rattle.base_devices.specs.OnlyReads.{content_of, more_read}
use Rattle.log_recovery.proofs.Telling.{if_all, none_comes}
use Rattle.log_recovery.proofs.many.read_on.Goals as goal

pub returns-then-len-end-clause-recovered : goal.returns-then-len-end-clause-recovered
returns-then-len-end-clause-recovered g c = if_all (content_of (g.D.Disk.told c.args.disk.now)) _ (λ d before has. has)

pub returns-clause-recovered : goal.returns-clause-recovered
returns-clause-recovered g c =
    none_comes (content_of (g.D.Disk.told c.args.disk.now)) c.in_ok-len.len c.args.kept.now c.keep_records.new.kept c.args.end c.keep_records.result c.requires.clean (omega (arith, c.if-len-end.false)) c.in_ok-len.ensures.len

pub returns-in_err-log-clause-disk : goal.returns-in_err-log-clause-disk
returns-in_err-log-clause-disk g c = more_read g.D.Disk _ _ _ c.in_ok-len.ensures.disk c.in_err-log.ensures.disk

pub returns-clause-disk : goal.returns-clause-disk
returns-clause-disk g c = more_read g.D.Disk _ _ _ (more_read g.D.Disk _ _ _ c.in_ok-len.ensures.disk c.in_ok-log.ensures.disk) c.keep_records.ensures.disk
