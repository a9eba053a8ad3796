use Rattle.std.proofs.Common.{ℕ, List, None, ap, arith, refl, subst, ◌∙◌}
use Rattle.model_base.specs.Controller.{ControllerCall, hear}
use Rattle.table_rule.specs.Histories.{last_of}
use Rattle.engine_controller.specs.Passes.{EndsWith, seen_by}
use Rattle.engine_groups.proofs.ClientMoves.{call_keeps, call_moved, seat_moved}
use Rattle.engine_groups.proofs.engine.GroupEngine.hear.Goals as goal

pub hear-requires : goal.hear-requires
hear-requires g c = let G = c.gather-most.ensures in record { own = G.own.0; gathered = G.gathered }

pub returns-clause-belongs : goal.returns-clause-belongs
returns-clause-belongs g c =
    let v = c.args.client.now in let G = c.gather-most.ensures in let A = c.await_seen in let H = c.hear.ensures in
    let heard = subst (λ (z : ℕ × List ControllerCall). EndsWith z.0 z.1 (hear c.gather-most.result) None (seen_by c.hear.new.pass)) (λ i. (G.own.1 i, G.same i)) H.heard in
    let loaded = seat_moved g.Versions.Table c.args.self.now v c.requires A.new.seat A.ensures.ours A.ensures.seen in
    call_moved g.Versions.Table c.args.self.now (record v { seat = A.new.seat }) loaded c.hear.new.pass (hear c.gather-most.result) None H.own.0 (H.own.1 ∙ G.own.1) heard refl

pub returns-clause-keeps : goal.returns-clause-keeps
returns-clause-keeps g c =
    let G = c.gather-most.ensures in let A = c.await_seen in
    let heard = subst (λ (z : ℕ × List ControllerCall). EndsWith z.0 z.1 (hear c.gather-most.result) None (seen_by c.hear.new.pass)) (λ i. (G.own.1 i, G.same i)) c.hear.ensures.heard in
    call_keeps g.Versions.Table c.args.self.now c.args.client.now c.requires A.new.seat A.ensures.seen.seen c.hear.new.pass (hear c.gather-most.result) None heard refl

pub returns-clause-heard : goal.returns-clause-heard
returns-clause-heard g c =
    let v = c.args.client.now in let G = c.gather-most.ensures in let A = c.await_seen in
    let heard = subst (λ (z : ℕ × List ControllerCall). EndsWith z.0 z.1 (hear c.gather-most.result) None (seen_by c.hear.new.pass)) (λ i. (G.own.1 i, G.same i)) c.hear.ensures.heard in
    let same = ap (λ (n : ℕ). last_of n (g.Versions.Table.account A.new.seat).seen) c.requires.idle.seated.start in
    let reached = A.ensures.reached in
    (c.gather-most.result, heard, omega (arith, same, reached))
