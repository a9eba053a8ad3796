use Rattle.std.proofs.Common.{ℕ, subst}
use Rattle.engine_controller.specs.declared.pass.Pass.{Pass}
use Rattle.engine_controller.specs.Passes.{seen_by, GoesOn}
use Rattle.engine_groups.proofs.ClientMoves.{goes_nowhere, goes_own, learn_moved}
use Rattle.engine_groups.proofs.engine.GroupEngine.see.Goals as goal

pub returns-in-Some-clause-fits : goal.returns-in-Some-clause-fits
returns-in-Some-clause-fits g c =
    let L = c.learn.ensures in
    learn_moved g.Versions.Table c.args.self.now c.await_answer.new.client c.await_answer.ensures.fits c.learn.new.pass L.seen L.own.0 L.own.1

pub returns-in-Some-clause-seen : goal.returns-in-Some-clause-seen
returns-in-Some-clause-seen g c =
    let E = c.await_answer.ensures in let L = c.learn.ensures in
    let more = goes_own g.Versions.Table c.args.self.now c.await_answer.new.client E.fits c.learn.new.pass L.seen in
    (E.seen, subst (λ (z : ℕ × Pass). GoesOn z.0 (seen_by z.1) (seen_by c.learn.new.pass)) (λ i. (E.same.0 i, E.same.3 i)) more)

pub returns-in_default-clause-seen : goal.returns-in_default-clause-seen
returns-in_default-clause-seen g c =
    let E = c.await_answer.ensures in
    (E.seen, subst (λ (p : Pass). GoesOn c.args.client.now.number (seen_by p) (seen_by c.await_answer.new.client.pass)) E.same.3 (goes_nowhere c.args.client.now.number c.await_answer.new.client.pass))
