use Rattle.tests_line_stages.specs.Clients.{HasAsked}
use Rattle.tests_line_stages.proofs.tests.threads.finish.Given as goal

abbrev pub invariant-loop : goal.invariant-loop
invariant-loop g l = (goal.iterator-loop g).can_next l.iterator' × (goal.iterator-loop g).is_finite l.iterator' × HasAsked l.list l.initial.client.writer.client l.client
