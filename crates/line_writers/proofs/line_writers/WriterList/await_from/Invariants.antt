use Rattle.std.proofs.Common.{◌≡◌}
use Rattle.line_writers.proofs.line_writers.WriterList.await_from.Given as goal

abbrev pub invariant-loop : goal.invariant-loop
invariant-loop g l = (goal.iterator-loop g).can_next l.iterator' × (goal.iterator-loop g).is_finite l.iterator' × (l.writer ≡ l.fn.writer)
