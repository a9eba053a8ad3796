use Rattle.std.proofs.Common.{◌≡◌, ◌+◌, List, length}
use Rattle.line_rule.specs.declared.view.QueuedWriter.{QueuedWriter}
use Rattle.line_writers.specs.Stalled.{ListsRest, EndsBefore}
use Rattle.line_writers.proofs.Skips.{Skipped}
use Rattle.line_writers.proofs.line_writers.WriterList.pass_over.Given as goal

abbrev pub invariant-loop-step : goal.invariant-loop-step
invariant-loop-step g l = record {
  count : length l.room.walk.items + l.step ≡ length l.fn.room.walk.items;
  newest : l.room.stall.newest ≡ l.fn.room.stall.newest;
  so_far : (newer rest : List (QueuedWriter g.row.Request.Denot)) → ListsRest l.self.clients rest l.fn.room → EndsBefore rest newer l.fn.room.stall.passed → Skipped l.self.clients newer rest l.room;
}
