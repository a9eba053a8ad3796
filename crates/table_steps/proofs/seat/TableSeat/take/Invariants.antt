-- The seat is as it was: nothing has been handed out yet.
use Rattle.std.proofs.Common.{◌≡◌}
use Rattle.table_steps.proofs.seat.TableSeat.take.Given as goal

abbrev pub invariant-loop : goal.invariant-loop
invariant-loop g l = (goal.iterator-loop g).can_next l.iterator' × (goal.iterator-loop g).is_finite l.iterator' × (l.self ≡ l.fn.self)
