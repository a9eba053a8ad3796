use Rattle.std.proofs.Common.{◌≡◌, ◌+◌, length, vec_len, vec_capacity}
use Rattle.line_rule.specs.Rule.{asks_for}
use Rattle.line_writers.proofs.Gathers.{Gathered}
use Rattle.line_writers.proofs.line_writers.WriterList.gather.Given as goal

abbrev pub invariant-loop-step : goal.invariant-loop-step
invariant-loop-step g l = record {
  client : l.writer.client ≡ l.fn.writer.client;
  table : l.writer.seat.table_id ≡ l.fn.writer.seat.table_id;
  asked_room : vec_capacity l.asked ≡ vec_capacity l.fn.asked;
  walk_room : vec_capacity l.walk ≡ vec_capacity l.fn.walk;
  count : length l.walk.items + l.step ≡ length l.fn.walk.items;
  asked_len : vec_len l.asked ≡ l.step + 1;
  so_far : Gathered (asks_for g.Request.HasGroupingItem.item_of g.Log.LogOfGroups.lawful l.self.table.shared.key.about) l.self.clients l.max l.leader_code l.fn.writer.client l.fn.writer.seat.me l.writer.seat.me l.walk.items l.asked.items l.sum;
}
