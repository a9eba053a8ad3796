use Rattle.std.proofs.Common.{◌≡◌}
use Rattle.line_writers.proofs.Tells.{Telling}
use Rattle.line_writers.proofs.line_writers.WriterList.tell_all.Given as goal

abbrev pub invariant-loop-i : goal.invariant-loop-i
invariant-loop-i g l = record {
  client : l.writer.client ≡ l.fn.writer.client;
  table : l.writer.seat.table_id ≡ l.fn.writer.seat.table_id;
  so_far : Telling l.self.clients l.fn.writer.client l.fn.writer.seat.me l.writer.seat.me l.members l.i;
}
