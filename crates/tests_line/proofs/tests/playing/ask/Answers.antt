use Rattle.tests_line.proofs.Seating.{linked}
use Rattle.tests_line.proofs.tests.playing.ask.Goals as goal

pub returns : goal.returns
returns g c = let l = c.link.ensures in record { linked = (l.linked.0, linked c.args.list.now _ _ c.link.new.writer l.linked.1, l.client) }
