use Rattle.std.proofs.Common.{◌≡◌, ◌+◌, ◌++◌, map, length, vec_len, vec_capacity}
use Rattle.std.specs.List.{AllByRecursion}
use Rattle.log_writer.specs.Words.{disk_of}
use Rattle.log_writer.specs.SetOpening.{IsEmpty, IsNew}
use Rattle.log_writer.proofs.set_opening.begin_all.Given as goal

abbrev pub invariant-loop-disk : goal.invariant-loop-disk
invariant-loop-disk g l = record {
  disks : map disk_of l.logs.items ++ l.disks.items ≡ l.initial.disks.items;
  new : AllByRecursion IsNew l.logs.items;
  many : length l.logs.items + length l.disks.items ≡ length l.initial.disks.items;
  count : length l.blocks.items ≡ length l.disks.items;
  whole : AllByRecursion (λ block. vec_len block ≡ 32768) l.blocks.items;
  empty : AllByRecursion (IsEmpty g.D.Disk) l.disks.items;
  room : vec_capacity l.disks ≡ vec_capacity l.initial.disks;
  capacity : vec_capacity l.logs ≡ vec_capacity l.initial.logs;
}

abbrev pub decreases-loop-disk : goal.decreases-loop-disk
decreases-loop-disk g l = length l.disks.items
