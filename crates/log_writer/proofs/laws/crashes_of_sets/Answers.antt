use Rattle.log_writer.proofs.Surviving.{Laws}
use Rattle.log_writer.proofs.SetCrashes.{certain, certain_synced, contents, contents_begun, leaves_front}
use Rattle.log_writer.proofs.laws.crashes_of_sets.Goals as goal

pub returns : goal.returns
returns g c = record {
  front = λ disks opened between last before after safe has first second alive.
      let laws : Laws g.D.Disk = record { is_disk = g.met.D.Disk.is_disk; only_now = g.met.D.Disk.only_now } in (
        certain laws disks opened between last before after safe has first second,
        contents laws disks opened between last before after safe has first second,
        certain_synced laws disks opened between last before after safe has first second alive,
        contents_begun laws disks opened between last before after safe has first second alive,
        leaves_front laws disks opened between last before after safe has first second,
      );
}
