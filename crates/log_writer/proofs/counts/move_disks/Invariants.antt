use Rattle.std.proofs.Common.{◌≡◌, ◌+◌, ◌++◌, map, length, vec_len, vec_capacity}
use Rattle.log_writer.specs.Words.{disk_of}
use Rattle.log_writer.proofs.counts.move_disks.Given as goal

abbrev pub invariant-loop-logs : goal.invariant-loop-logs
invariant-loop-logs g l = record {
  moved : l.disks.items ++ map disk_of l.logs.items ≡ l.initial.disks.items ++ map disk_of l.initial.logs.items;
  few : vec_len l.disks + length l.logs.items ≡ vec_len l.initial.disks + length l.initial.logs.items;
  room : vec_capacity l.disks ≡ vec_capacity l.initial.disks;
}

abbrev pub decreases-loop-logs : goal.decreases-loop-logs
decreases-loop-logs g l = length l.logs.items
