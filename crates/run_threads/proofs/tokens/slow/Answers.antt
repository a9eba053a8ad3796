use Rattle.std.proofs.Common.{refl}
use Rattle.model_base.specs.Calls as calls
use Rattle.run_threads.proofs.tokens.slow.Goals as goal

pub returns-in-Ok-clause-goes : goal.returns-in-Ok-clause-goes
returns-in-Ok-clause-goes g c = λ pending. record {
  reply = calls.done;
  shows = refl;
  goes = c.slowdowns_are_steps.ensures.taken (g.E.Engine.settings c.args.engine.now) (g.E.Engine.account c.args.client.now) pending c.args.rate (g.E.Engine.account c.slow.new.client) c.in-Ok.ensures.done.1 c.in-Ok.ensures.done.0 c.in-Ok.ensures.done.2;
}

pub returns-in-Err-clause-goes : goal.returns-in-Err-clause-goes
returns-in-Err-clause-goes g c = λ pending. record {
  reply = calls.held;
  shows = refl;
  goes = c.slowdowns_are_steps.ensures.held (g.E.Engine.settings c.args.engine.now) (g.E.Engine.account c.args.client.now) pending c.args.rate (g.E.Engine.account c.slow.new.client) c.in-Err.ensures.held.0 c.in-Err.ensures.held.1;
}
