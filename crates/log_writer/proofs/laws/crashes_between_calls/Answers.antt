use Rattle.log_writer.specs.Words.{disk_of}
use Rattle.log_writer.proofs.Calls.{synced_later}
use Rattle.log_writer.proofs.Held.{held_so}
use Rattle.log_writer.proofs.Surviving.{survives, told_keeps, told_begins, image_now}
use Rattle.log_writer.proofs.laws.crashes_between_calls.Goals as goal

pub returns : goal.returns
returns g c = record {
  any_moment = λ b before after old new wrote.
      told_keeps g.D.Disk.moment g.D.Disk.from g.D.Disk.since (g.D.Disk.told (disk_of old)) (disk_of old) (disk_of new) b before after
      (survives (record { is_disk = g.met.D.Disk.is_disk; only_now = g.met.D.Disk.only_now }) old after new wrote).leaves;
  begins = λ b before after old new wrote.
      told_begins g.D.Disk.moment g.D.Disk.from g.D.Disk.since (g.D.Disk.told (disk_of old)) (disk_of old) (disk_of new) b before
      (survives (record { is_disk = g.met.D.Disk.is_disk; only_now = g.met.D.Disk.only_now }) old after new wrote).leaves;
  at_end = λ b calls log. image_now (g.D.Disk.told (disk_of log)) b calls;
  synced = synced_later;
  held = λ b disk calls log is. held_so (record { is_disk = g.met.D.Disk.is_disk; only_now = g.met.D.Disk.only_now }) b disk calls log is;
}
