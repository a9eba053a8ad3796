use Rattle.tests_engine.proofs.tests.playing.updates.Goals as goal

pub returns-in-Ok : goal.returns-in-Ok
returns-in-Ok g c = (c.updates.ensures.belongs, c.in-Ok.ensures.ok.1.number)
