use Rattle.std.proofs.Common.{◌+◌, ◌≤◌, length}
use Rattle.log_batch.proofs.OneReading.{Walks}
use Rattle.log_batch.proofs.records.count_records.Given as goal

-- the bytes are records, of which `found` count, and then the rest
abbrev pub invariant-loop-rest : goal.invariant-loop-rest
invariant-loop-rest l = record {
  walked : Walks l.bytes l.rest l.found;
  few : l.found + length l.rest ≤ length l.bytes;
}

abbrev pub decreases-loop-rest : goal.decreases-loop-rest
decreases-loop-rest l = length l.rest
