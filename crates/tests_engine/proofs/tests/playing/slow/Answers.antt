use Rattle.tests_engine.proofs.tests.playing.slow.Goals as goal

pub returns-in-Ok : goal.returns-in-Ok
returns-in-Ok g c = (c.slow.ensures.belongs, c.in-Ok.ensures.done.2.number)

pub returns-in-Err : goal.returns-in-Err
returns-in-Err g c = (c.slow.ensures.belongs, c.in-Err.ensures.held.1.number)
