use Rattle.run_threads.proofs.answer.own_tokens.Goals as goal

pub returns : goal.returns
returns g c = g.E.Engine.own_tokens c.args.engine.now c.args.client.now c.requires
