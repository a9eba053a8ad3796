use Rattle.tests_line_stages.specs.Clients.{MayWrite}
use Rattle.tests_line_stages.proofs.tests.threads.write_often.Given as goal

abbrev pub invariant-loop-time : goal.invariant-loop-time
invariant-loop-time g l = MayWrite l.list l.initial.client.writer.client l.client
