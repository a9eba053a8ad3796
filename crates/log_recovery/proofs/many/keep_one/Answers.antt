use Rattle.std.proofs.Common.{List, ℕ, Option, IfSome, IfOk, refl, ap, subst}
use Rattle.base_devices.specs.OnlyReads.{content_of, more_read}
use Rattle.model_base.specs.Log.{plain_log}
use Rattle.log_recovery.specs.Recovering.{HasKept}
use Rattle.log_recovery.proofs.Telling.{nothing_kept}
use Rattle.log_recovery.proofs.many.keep_one.Goals as goal

pub returns-then-len-eq0-clause-recovered : goal.returns-then-len-eq0-clause-recovered
returns-then-len-eq0-clause-recovered g c =
    nothing_kept (content_of (g.D.Disk.told c.args.disk.now)) c.in_ok-len.len c.args.kept.now (record c.args.kept.now { end = 0 }) c.if-len-eq0.true c.in_ok-len.ensures.len refl refl refl refl

pub returns-clause-recovered : goal.returns-clause-recovered
returns-clause-recovered g c =
    subst (λ (held : Option (List ℕ)). IfSome held (λ file. IfOk c.keep_log-2.result (HasKept plain_log file c.args.kept.now c.keep_log-2.new.kept))) (ap content_of c.in_ok-len.ensures.disk.same) c.keep_log-2.ensures.recovered

pub returns-clause-disk : goal.returns-clause-disk
returns-clause-disk g c = more_read g.D.Disk _ _ _ c.in_ok-len.ensures.disk c.keep_log-2.ensures.disk
