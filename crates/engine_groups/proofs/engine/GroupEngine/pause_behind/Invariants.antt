-- The writer is where it was.
use Rattle.line_writers.specs.Seats.{IsUnchanged}
use Rattle.engine_groups.proofs.engine.GroupEngine.pause_behind.Given as goal

abbrev pub invariant-loop : goal.invariant-loop
invariant-loop g l = record {
  still : IsUnchanged l.writer l.fn.writer;
}
