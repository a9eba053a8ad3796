use Rattle.log_writer.proofs.SetFilled.{filled_set}
use Rattle.log_writer.proofs.Surviving.{Laws}
use Rattle.log_writer.proofs.set_laws.sets_are_filled.Goals as goal

pub returns : goal.returns
returns g c = record {
  filled = λ disks opened last calls has wrote hold.
      let laws : Laws g.D.Disk = record { is_disk = g.met.D.Disk.is_disk; only_now = g.met.D.Disk.only_now } in filled_set laws disks opened has calls last wrote hold;
}
