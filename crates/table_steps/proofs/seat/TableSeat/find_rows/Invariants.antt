-- The seat is as it was: somebody had the lock at each try.
use Rattle.std.proofs.Common.{◌≡◌}
use Rattle.table_steps.proofs.seat.TableSeat.find_rows.Given as goal

abbrev pub invariant-loop : goal.invariant-loop
invariant-loop g l = (goal.iterator-loop g).can_next l.iterator' × (goal.iterator-loop g).is_finite l.iterator' × (l.self ≡ l.fn.self)
