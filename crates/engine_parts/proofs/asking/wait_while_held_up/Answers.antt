use Rattle.std.proofs.Common.{ℕ, ◌∙◌, inl, subst, sym, arith, Some}
use Rattle.base_devices.specs.Clocks.{HasPaused}
use Rattle.model_base.specs.Controller.{look}
use Rattle.engine_controller.specs.Looks.{look_of}
use Rattle.engine_controller.specs.Passes.{client_of, seen_by, EndsWith}
use Rattle.engine_parts.proofs.Views.{looked_free, only_none, only_more}
use Rattle.engine_parts.proofs.asking.wait_while_held_up.Goals as goal

pub returns-then-stops-eq0-clause-pass : goal.returns-then-stops-eq0-clause-pass
returns-then-stops-eq0-clause-pass g c = (c.loop.invariant.pass, c.loop.invariant.client)

pub returns-then-stops-eq0-clause-looks : goal.returns-then-stops-eq0-clause-looks
returns-then-stops-eq0-clause-looks g c = c.loop.invariant.looks

pub returns-then-stops-eq0-clause-proceeds : goal.returns-then-stops-eq0-clause-proceeds
returns-then-stops-eq0-clause-proceeds g c = c.loop.invariant.proceeds c.if-stops-eq0.true

pub returns-then-stops-eq0-clause-waited : goal.returns-then-stops-eq0-clause-waited
returns-then-stops-eq0-clause-waited g c = c.loop.invariant.waited

pub loop-init : goal.loop-init
loop-init g c = record {
  next = tt;
  finite = tt;
  pass = c.requires.pass;
  client = λ i. client_of c.args.pass.now;
  looks = only_none (client_of c.args.pass.now) (seen_by c.args.pass.now);
  proceeds = λ free. inl (sym c.stops-stops.ensures ∙ free);
  waited = subst (λ (n : ℕ). HasPaused (g.Time.Clock.paused c.args.clock.now) n (g.Time.Clock.paused c.pause_for.new.clock)) c.wait.ensures c.pause_for.ensures;
}

pub loop-preserved : goal.loop-preserved
loop-preserved g c =
    let v = c.loop.invariant in let n = c.look.ensures in let was = c.args.pass.now in
    record {
      next = tt;
      finite = tt;
      pass = n.own.0;
      client = n.own.1 ∙ v.client;
      looks = only_more (client_of was) (seen_by was) (seen_by c.loop.pass) (seen_by c.look.new.pass) (Some (look_of c.look.result)) v.looks
          (subst (λ k. EndsWith k (seen_by c.loop.pass) look (Some (look_of c.look.result)) (seen_by c.look.new.pass)) v.client n.asked);
      proceeds = λ free. looked_free (client_of was) (seen_by was) (seen_by c.loop.pass) (seen_by c.look.new.pass) (look_of c.args.look) (look_of c.look.result) v.looks.begins
          (subst (λ k. EndsWith k (seen_by c.loop.pass) look (Some (look_of c.look.result)) (seen_by c.look.new.pass)) v.client n.asked) (sym c.stops-stops-in-loop.ensures ∙ free);
      waited = omega (arith, v.waited, c.pause.ensures.counted);
    }
