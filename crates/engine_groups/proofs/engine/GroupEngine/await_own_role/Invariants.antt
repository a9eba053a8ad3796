-- The writer is still in the list, and only its client's seat has seen more.
use Rattle.std.proofs.Common.{◌≡◌}
use Rattle.table_rule.specs.Histories.{Begins}
use Rattle.table_calls.specs.Account.{IsReady}
use Rattle.line_writers.specs.Seats.{Belongs, IsIn, client_of, answers_told}
use Rattle.engine_groups.proofs.engine.GroupEngine.await_own_role.Given as goal
use Rattle.engine_parts.specs.declared.requests.Request.{Request}
use Rattle.engine_groups.specs.Law.{law_in}

abbrev pub invariant-loop : goal.invariant-loop
invariant-loop g l = record {
  next : (goal.iterator-loop g).can_next l.iterator';
  finite : (goal.iterator-loop g).is_finite l.iterator';
  client : client_of l.writer ≡ client_of l.fn.writer;
  belongs : Belongs l.self.list l.writer;
  asked : Request;
  was_in : IsIn (law_in g.Versions.Table l.self.list) asked (answers_told l.fn.writer) l.fn.writer;
  is_in : (q : Request) → IsIn (law_in g.Versions.Table l.self.list) q (answers_told l.fn.writer) l.fn.writer → IsIn (law_in g.Versions.Table l.self.list) q (answers_told l.fn.writer) l.writer;
  ours : g.Versions.Table.ours l.self.table l.seat;
  ready : IsReady (g.Versions.Table.account l.seat);
  number : (g.Versions.Table.account l.seat).number ≡ (g.Versions.Table.account l.fn.seat).number;
  seen : Begins (g.Versions.Table.account l.fn.seat).seen (g.Versions.Table.account l.seat).seen;
}
