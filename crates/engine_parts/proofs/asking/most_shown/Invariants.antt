-- The greatest of the members so far.
use Rattle.std.proofs.Common.{◌≡◌, ◌≤◌, take, length}
use Rattle.engine_parts.specs.Asking.{greatest_shown}
use Rattle.engine_parts.proofs.asking.most_shown.Given as goal

abbrev pub invariant-loop-i : goal.invariant-loop-i
invariant-loop-i l = record {
  in_range : l.i ≤ length l.requests;
  most : l.most ≡ greatest_shown (take l.i l.requests);
}
