use Rattle.tests_engine.proofs.Calling.{to_ours}
use Rattle.tests_engine.proofs.tests.playing.closed.Goals as goal

pub close-log-requires-clause-all : goal.close-log-requires-clause-all
close-log-requires-clause-all g c = let all = c.requires in to_ours c.args.engine _ c.args.all.clients.items all.may all.len
