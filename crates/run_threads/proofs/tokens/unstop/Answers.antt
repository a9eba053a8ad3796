use Rattle.std.proofs.Common.{refl}
use Rattle.model_base.specs.Calls as calls
use Rattle.run_threads.proofs.tokens.unstop.Goals as goal

pub returns-in-Ok-clause-goes : goal.returns-in-Ok-clause-goes
returns-in-Ok-clause-goes g c = λ pending. record {
  reply = calls.done;
  shows = refl;
  goes = c.stops_are_steps.ensures.given_back (g.E.Engine.settings c.args.engine.now) (g.E.Engine.account c.args.client.now) pending (g.E.Engine.account c.unstop.new.client) c.in-Ok.ensures.done.1 c.in-Ok.ensures.done.0 c.in-Ok.ensures.done.2;
}

pub returns-in-Err-clause-goes : goal.returns-in-Err-clause-goes
returns-in-Err-clause-goes g c = λ pending. record {
  reply = calls.not_held;
  shows = refl;
  goes = c.stops_are_steps.ensures.not_held (g.E.Engine.settings c.args.engine.now) (g.E.Engine.account c.args.client.now) pending (g.E.Engine.account c.unstop.new.client) c.in-Err.ensures.not_held.0 c.in-Err.ensures.not_held.1;
}
