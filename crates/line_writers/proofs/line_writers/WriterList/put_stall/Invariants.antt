use Rattle.std.proofs.Common.{◌≡◌}
use Rattle.line_writers.proofs.line_writers.WriterList.put_stall.Given as goal

abbrev pub invariant-loop : goal.invariant-loop
invariant-loop g l =
    (goal.iterator-loop g).can_next l.iterator' × (goal.iterator-loop g).is_finite l.iterator' × (l.writer.client ≡ l.fn.writer.client) × (l.writer.seat.table_id ≡ l.fn.writer.seat.table_id)
    × (l.writer.seat.me.0 ≡ l.fn.writer.seat.me.0) × (l.writer.seat.me.1 ≡ l.fn.writer.seat.me.1)
