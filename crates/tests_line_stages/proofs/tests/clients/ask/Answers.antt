use Rattle.tests_line_stages.proofs.Seating.{linked}
use Rattle.tests_line_stages.proofs.tests.clients.ask.Goals as goal

pub returns : goal.returns
returns g c = let l = c.link.ensures in record { linked = (l.linked.0, linked c.args.list.now _ _ c.link.new.writer l.linked.1, l.client) }
