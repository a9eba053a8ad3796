use Rattle.log_writer.proofs.Surviving.{Laws}
use Rattle.log_writer.proofs.SetContents.{hold_logs}
use Rattle.log_writer.proofs.laws.contents_of_sets.Goals as goal

pub returns : goal.returns
returns g c = record {
  hold = λ disks opened last calls has is.
      let laws : Laws g.D.Disk = record { is_disk = g.met.D.Disk.is_disk; only_now = g.met.D.Disk.only_now } in hold_logs laws disks opened last calls has is;
}
