-- The client's seat has seen no less.
use Rattle.std.proofs.Common.{◌≡◌}
use Rattle.table_rule.specs.Histories.{Begins}
use Rattle.table_calls.specs.Account.{IsReady}
use Rattle.engine_groups.proofs.engine.GroupEngine.await_end.Given as goal

abbrev pub invariant-loop : goal.invariant-loop
invariant-loop g l = record {
  next : (goal.iterator-loop g).can_next l.iterator';
  finite : (goal.iterator-loop g).is_finite l.iterator';
  ours : g.Versions.Table.ours l.self.table l.seat;
  ready : IsReady (g.Versions.Table.account l.seat);
  number : (g.Versions.Table.account l.seat).number ≡ (g.Versions.Table.account l.fn.seat).number;
  seen : Begins (g.Versions.Table.account l.fn.seat).seen (g.Versions.Table.account l.seat).seen;
}
