use Rattle.log_writer.proofs.SetHeld.{held_set}
use Rattle.log_writer.proofs.Surviving.{Laws}
use Rattle.log_writer.proofs.set_laws.synced_in_sets.Goals as goal

pub returns : goal.returns
returns g c = record {
  held = λ disks opened last calls reached safe has split reach images left.
      let laws : Laws g.D.Disk = record { is_disk = g.met.D.Disk.is_disk; only_now = g.met.D.Disk.only_now } in held_set laws disks opened last calls reached safe has split reach images left;
}
