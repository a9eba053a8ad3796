use Rattle.std.proofs.Common.{◌≡◌}
use Rattle.line_writers.proofs.line_writers.WriterList.launch_roles.Given as goal

abbrev pub invariant-loop-i : goal.invariant-loop-i
invariant-loop-i g l = record {
  client : l.writer.client ≡ l.fn.writer.client;
  table : l.writer.seat.table_id ≡ l.fn.writer.seat.table_id;
  me : l.writer.seat.me ≡ l.fn.writer.seat.me;
}
