use Rattle.log_writer.proofs.Beginning.{opened_begins, reused_begins, resumed_begins}
use Rattle.log_writer.proofs.laws.beginnings.Goals as goal

pub returns : goal.returns
returns g c = record {
  opened = opened_begins (record { is_disk = g.met.D.Disk.is_disk; only_now = g.met.D.Disk.only_now });
  reused = reused_begins (record { is_disk = g.met.D.Disk.is_disk; only_now = g.met.D.Disk.only_now });
  resumed = resumed_begins (record { is_disk = g.met.D.Disk.is_disk; only_now = g.met.D.Disk.only_now });
}
