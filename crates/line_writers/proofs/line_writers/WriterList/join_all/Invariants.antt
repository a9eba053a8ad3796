use Rattle.std.proofs.Common.{◌≡◌, ◌+◌, [], ◌++◌, length, reverse}
use Rattle.line_writers.specs.Seats.{AllOut, holds_of}
use Rattle.line_writers.proofs.line_writers.WriterList.join_all.Given as goal

abbrev pub invariant-loop-i : goal.invariant-loop-i
invariant-loop-i g l = record {
  table : l.first.table_id ≡ l.fn.first.table_id;
  none_out : l.first.me.1 ≡ [];
  view : l.first.me.0 ++ reverse (holds_of l.writers.items) ≡ l.fn.first.me.0 ++ reverse (holds_of l.fn.writers.items);
  all_out : AllOut l.self.table.shared.table_id l.writers.items;
  count : length l.writers.items + l.i ≡ length l.fn.writers.items;
}
