use Rattle.std.proofs.Common.{◌≡◌, ◌+◌, ◌≤◌, length, vec_capacity}
use Rattle.log_writer.proofs.SetOpening.{IsSoFar}
use Rattle.log_writer.proofs.set_opening.look_at_all.Given as goal

abbrev pub invariant-loop-disk : goal.invariant-loop-disk
invariant-loop-disk g l = record {
  so_far : IsSoFar g.D.Disk l.initial.disks.items l.disks.items l.looked.items l.found;
  many : length l.looked.items + length l.disks.items ≡ length l.initial.disks.items;
  fits : length l.initial.disks.items ≤ vec_capacity l.looked;
  room : vec_capacity l.looked ≡ vec_capacity l.initial.looked;
}

abbrev pub decreases-loop-disk : goal.decreases-loop-disk
decreases-loop-disk g l = length l.disks.items
