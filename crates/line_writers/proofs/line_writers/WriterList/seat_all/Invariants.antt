use Rattle.std.proofs.Common.{◌≡◌, ◌-◌, [], length, vec_capacity, vec_len}
use Rattle.line_rule.specs.Rule.{newcomers}
use Rattle.line_writers.specs.Roles.{AreNew}
use Rattle.line_writers.proofs.line_writers.WriterList.seat_all.Given as goal

abbrev pub invariant-loop-made : goal.invariant-loop-made
invariant-loop-made g l = record {
  table : l.first.table_id ≡ l.self.table.shared.table_id;
  left : l.first.me ≡ (newcomers (l.self.clients - l.made), []);
  len : vec_len l.writers ≡ l.made;
  count : length l.writers.items ≡ l.made;
  room : vec_capacity l.writers ≡ vec_capacity l.fn.writers;
  new : AreNew l.self.table.shared.table_id l.self.clients l.writers.items;
}
