use Rattle.std.proofs.Common.{◌+◌, ◌≤◌, length}
use Rattle.log_salvage.proofs.Judging.{GoesOn}
use Rattle.log_salvage.proofs.keeping.fault_of.Given as goal

-- before the rest are operations, of which `found` count
abbrev pub invariant-loop-rest : goal.invariant-loop-rest
invariant-loop-rest l = record {
  goes : GoesOn l.body l.rest l.found;
  few : l.found + length l.rest ≤ length l.body;
}

abbrev pub decreases-loop-rest : goal.decreases-loop-rest
decreases-loop-rest l = length l.rest
