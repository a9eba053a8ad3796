use Rattle.table_memory.specs.Meaning.{IsOurs}
use Rattle.tests_table.proofs.tests.at_once.watch.Given as goal

abbrev pub invariant-loop : goal.invariant-loop
invariant-loop g l = (goal.iterator-loop g).can_next l.iterator' × (goal.iterator-loop g).is_finite l.iterator' × IsOurs l.table l.seat
