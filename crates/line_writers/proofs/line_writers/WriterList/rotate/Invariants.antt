use Rattle.std.proofs.Common.{◌≡◌}
use Rattle.line_writers.proofs.Turns.{Turned}
use Rattle.line_writers.proofs.line_writers.WriterList.rotate.Given as goal

abbrev pub invariant-loop-i : goal.invariant-loop-i
invariant-loop-i g l = record {
  client : l.writer.client ≡ l.fn.writer.client;
  table : l.writer.seat.table_id ≡ l.fn.writer.seat.table_id;
  view : l.writer.seat.me.0 ≡ l.fn.writer.seat.me.0;
  so_far : Turned l.fn.writer.seat.me.1 l.writer.seat.me.1 l.i l.fn.count;
}
