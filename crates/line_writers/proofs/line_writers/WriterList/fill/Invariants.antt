use Rattle.std.proofs.Common.{◌≡◌, ◌+◌, length, vec_len, vec_capacity}
use Rattle.line_writers.proofs.Fills.{Filled}
use Rattle.line_writers.proofs.line_writers.WriterList.fill.Given as goal

abbrev pub invariant-loop-i : goal.invariant-loop-i
invariant-loop-i g l = record {
  client : l.writer.client ≡ l.fn.writer.client;
  table : l.writer.seat.table_id ≡ l.fn.writer.seat.table_id;
  view : l.writer.seat.me.0 ≡ l.fn.writer.seat.me.0;
  count : length l.replies.items + l.i ≡ length l.fn.replies.items;
  len : vec_len l.members ≡ l.i;
  room : vec_capacity l.members ≡ vec_capacity l.fn.members;
  replies_room : vec_capacity l.replies ≡ vec_capacity l.fn.replies;
  laid : Filled l.fn.replies.items l.replies.items l.members.items l.writer.seat.me.1;
}
