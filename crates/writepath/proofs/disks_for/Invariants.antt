use Rattle.std.proofs.Common.{◌≡◌, ◌≤◌, vec_len, vec_capacity}
use Rattle.writepath.proofs.disks_for.Given as goal

-- the logs so far have their disks, and there is room for the others
abbrev pub invariant-loop-before : goal.invariant-loop-before
invariant-loop-before l = record {
  made : vec_len l.disks ≡ l.before;
  room : 16 ≤ vec_capacity l.disks;
}
