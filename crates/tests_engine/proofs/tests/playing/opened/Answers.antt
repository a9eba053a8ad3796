use Rattle.tests_engine.proofs.Calling.{from_ours}
use Rattle.tests_engine.proofs.tests.playing.opened.Goals as goal

pub returns-clause-all : goal.returns-clause-all
returns-clause-all g c =
    let o = c.in-Ok-open_engine.ensures in let r = c.in-Ok-open_engine.opened in
    let ours = o.clients in
    record { may = from_ours r.0 _ r.1.clients.items ours; len = ours.number_of; room = o.room }
