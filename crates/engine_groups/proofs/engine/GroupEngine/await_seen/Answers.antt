use Rattle.engine_groups.proofs.ClientMoves.{seat_moved}
use Rattle.engine_groups.proofs.engine.GroupEngine.await_seen.Goals as goal

pub returns-clause-fits : goal.returns-clause-fits
returns-clause-fits g c = seat_moved g.Versions.Table c.args.self.now c.args.client.now c.requires c.await_seen.new.seat c.await_seen.ensures.ours c.await_seen.ensures.seen

pub returns-clause-seen : goal.returns-clause-seen
returns-clause-seen g c = c.await_seen.ensures.seen.seen

pub returns-clause-reached : goal.returns-clause-reached
returns-clause-reached g c = c.await_seen.ensures.reached
