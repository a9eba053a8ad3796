-- The client has seen more of what is published, if anything has changed.
use Rattle.std.proofs.Common.{◌≡◌}
use Rattle.table_rule.specs.Histories.{Begins}
use Rattle.table_steps.specs.Accounts.{account, IsOurs}
use Rattle.table_steps.proofs.seat.TableSeat.await_seen.Given as goal

abbrev pub invariant-loop : goal.invariant-loop
invariant-loop g l = record {
  next : (goal.iterator-loop g).can_next l.iterator';
  finite : (goal.iterator-loop g).is_finite l.iterator';
  ours : IsOurs l.table l.self;
  number : (account l.self).number ≡ (account l.fn.self).number;
  stage : (account l.self).stage ≡ (account l.fn.self).stage;
  launched : (account l.self).launched ≡ (account l.fn.self).launched;
  seen : Begins (account l.fn.self).seen (account l.self).seen;
}
