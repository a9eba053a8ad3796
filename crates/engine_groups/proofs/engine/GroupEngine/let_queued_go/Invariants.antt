-- The leader still stalls writes, and has only looked; all that it has looked at and that may not wait has left the queue.
use Rattle.std.proofs.Common.{◌≡◌, List}
use Rattle.line_rule.specs.declared.view.QueuedWriter.{QueuedWriter}
use Rattle.line_rule.specs.declared.view.Handling.{Handling}
use Rattle.engine_controller.specs.Passes.{client_of, seen_by, IsPassOf}
use Rattle.engine_parts.specs.declared.requests.Request.{Request}
use Rattle.engine_parts.specs.declared.requests.Answer.{Answer}
use Rattle.engine_parts.specs.Asking.{OnlyLooks}
use Rattle.engine_groups.specs.Stalling.{AreLetGo, IsSame, StallsFor}
use Rattle.engine_groups.proofs.engine.GroupEngine.let_queued_go.Given as goal

abbrev pub invariant-loop : goal.invariant-loop
invariant-loop g l = record {
  next : (goal.iterator-loop g).can_next l.iterator';
  finite : (goal.iterator-loop g).is_finite l.iterator';
  pass : IsPassOf l.self.controller l.pass;
  client : client_of l.pass ≡ client_of l.fn.pass;
  looks : OnlyLooks (client_of l.fn.pass) (seen_by l.fn.pass) (seen_by l.pass);
  same : IsSame l.self.list l.fn.writer l.writer;
  stalls : (own : QueuedWriter Request) (group left rest : List (QueuedWriter Request)) (seen : List (Handling Request Answer)) → StallsFor l.self.list own group left seen rest l.fn.room l.fn.writer
      → (after : List (QueuedWriter Request)) × StallsFor l.self.list own group left seen after l.room l.writer × (AreLetGo l.self.controller after → AreLetGo l.self.controller rest);
}
