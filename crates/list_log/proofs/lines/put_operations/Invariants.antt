use Rattle.std.proofs.Common.{◌+◌, ◌≤◌, length}
use Rattle.list_log.proofs.Bodies.{Told}
use Rattle.list_log.proofs.lines.put_operations.Given as goal

-- before the rest are operations, and those of them that are shown are appended
abbrev pub invariant-loop-rest : goal.invariant-loop-rest
invariant-loop-rest l = record {
  told : Told l.settings l.body l.rest l.initial.text l.text l.found l.any;
  few : l.found + length l.rest ≤ length l.body;
}

abbrev pub decreases-loop-rest : goal.decreases-loop-rest
decreases-loop-rest l = length l.rest
