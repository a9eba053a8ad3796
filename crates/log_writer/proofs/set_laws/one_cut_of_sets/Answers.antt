use Rattle.std.proofs.Common.{◌++◌, ⊎_elim}
use Rattle.log_writer.proofs.Cutting.{one_begun}
use Rattle.log_writer.proofs.SetContents.{split_cut}
use Rattle.log_writer.proofs.SetEnd.{at_end, any_moment, wrote_more}
use Rattle.log_writer.proofs.SetUnused.{handed_in, unused_handed_in, unused_between, unused_now}
use Rattle.log_writer.proofs.Surviving.{Laws}
use Rattle.log_writer.proofs.set_laws.one_cut_of_sets.Goals as goal

pub returns : goal.returns
returns g c =
    let laws : Laws g.D.Disk = record { is_disk = g.met.D.Disk.is_disk; only_now = g.met.D.Disk.only_now } in
    record {
      one = λ last calls some other. one_begun last calls some other;
      of_calls = λ disks opened last calls has split hold. split_cut laws disks opened last calls has split hold;
      handed_in = λ disks opened last calls safe has wrote hold images left. handed_in laws disks opened safe has calls last wrote hold images left;
      front = λ disks opened between last before after safe has wrote more hold. any_moment laws disks opened safe has between last before after wrote more hold;
      at_end = λ disks opened last calls safe has wrote hold. at_end laws disks opened safe has calls last wrote hold;
      unused = λ disks opened between last before after safe has wrote more images.
          let all = wrote_more opened between last before after wrote more in
          ⊎_elim (λ left. unused_handed_in laws disks opened safe has (before ++ after) last all images left)
          (λ others. ⊎_elim (λ left. unused_between laws disks opened safe has between last before after wrote more images left) (λ nows. unused_now laws disks opened safe has (before ++ after) last all images nows) others);
    }
