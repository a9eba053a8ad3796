-- The seat has nothing to do between two reads.
use Rattle.tests_table.specs.Clients.{IsIdle}
use Rattle.tests_table.proofs.tests.tables.check_each.Given as goal

abbrev pub invariant-loop-i : goal.invariant-loop-i
invariant-loop-i g l = IsIdle l.table l.seat
