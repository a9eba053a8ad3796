use Rattle.log_writer.proofs.ReadContents.{log_holds}
use Rattle.log_writer.proofs.Surviving.{Laws}
use Rattle.log_writer.proofs.readable_log.LogWriterReadableLog.logs.Goals as goal

pub returns-clause-holds : goal.returns-clause-holds
returns-clause-holds g c = λ opened kept calls files keeps wrote is.
    let laws : Laws g.D.Disk = record { is_disk = g.met.D.Disk.is_disk; only_now = g.met.D.Disk.only_now } in
    log_holds laws opened c.args.self.now kept calls files keeps wrote is
