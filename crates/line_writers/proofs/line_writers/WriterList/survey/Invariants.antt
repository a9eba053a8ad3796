use Rattle.std.proofs.Common.{◌≡◌, vec_len, vec_capacity}
use Rattle.line_writers.specs.Roles.{CodesFit}
use Rattle.line_writers.proofs.Surveys.{Surveyed}
use Rattle.line_writers.proofs.line_writers.WriterList.survey.Given as goal

abbrev pub invariant-loop-step : goal.invariant-loop-step
invariant-loop-step g l = record {
  client : l.writer.client ≡ l.fn.writer.client;
  table : l.writer.seat.table_id ≡ l.fn.writer.seat.table_id;
  me : l.writer.seat.me ≡ l.fn.writer.seat.me;
  room : vec_capacity l.walk ≡ vec_capacity l.fn.walk;
  len : vec_len l.walk ≡ l.step;
  codes : CodesFit l.walk.items;
  so_far : Surveyed l.fn.end l.fn.writer.client l.fn.self.table.shared.table_id.slots l.writer.seat.me l.at l.walk.items l.step;
}
