use Rattle.tests_line_stages.specs.Clients.{AllStand}
use Rattle.tests_line_stages.proofs.tests.schedule.play.Given as goal

abbrev pub invariant-loop-number : goal.invariant-loop-number
invariant-loop-number g l = AllStand l.list l.clients
