-- Between two rounds no group is launched, and the last published sequence is `last`.
use Rattle.std.proofs.Common.{◌≡◌}
use Rattle.table_rule.specs.Histories.{last_of}
use Rattle.table_steps.specs.Accounts.{history_of}
use Rattle.table_memory.specs.Meaning.{opening_of, account_of, MayLaunch}
use Rattle.tests_table.specs.Clients.{IsIdle}
use Rattle.tests_table.proofs.tests.tables.play.Given as goal

abbrev pub invariant-loop-i : goal.invariant-loop-i
invariant-loop-i g l = record {
  leader : IsIdle l.table l.leader × ((account_of l.leader).number ≡ 1);
  member : IsIdle l.table l.member;
  turn : MayLaunch l.table l.turn × (last_of (opening_of l.table).start (history_of l.turn) ≡ l.last);
}
