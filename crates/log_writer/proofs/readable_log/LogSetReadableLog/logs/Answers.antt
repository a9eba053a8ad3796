use Rattle.std.proofs.Common.{◌++◌, List, sym, subst}
use Rattle.model_base.specs.Log.{plain_log}
use Rattle.model_base.specs.Recovery.{Logged}
use Rattle.log_writer.specs.ReadableLogs.{HoldInTurn, batches_by}
use Rattle.log_writer.proofs.ReadContents.{set_holds}
use Rattle.log_writer.proofs.Surviving.{Laws}
use Rattle.log_writer.proofs.readable_log.LogSetReadableLog.logs.Goals as goal

pub returns-clause-holds : goal.returns-clause-holds
returns-clause-holds g c = λ opened kept calls files keeps wrote are.
    let laws : Laws g.D.Disk = record { is_disk = g.met.D.Disk.is_disk; only_now = g.met.D.Disk.only_now } in
    subst (λ (before : List Logged). HoldInTurn plain_log files (before ++ batches_by calls)) (sym keeps.none)
    (set_holds laws keeps.disks opened c.args.self.now calls files keeps.opened wrote are)
