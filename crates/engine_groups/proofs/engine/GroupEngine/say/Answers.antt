use Rattle.std.proofs.Common.{ℕ, ap, arith, refl, None}
use Rattle.model_base.specs.Controller.{say}
use Rattle.table_rule.specs.Histories.{last_of}
use Rattle.engine_groups.proofs.ClientMoves.{call_keeps, call_moved, seat_moved, seen_before}
use Rattle.engine_groups.proofs.engine.GroupEngine.say.Goals as goal

pub returns-clause-belongs : goal.returns-clause-belongs
returns-clause-belongs g c =
    let v = c.args.client.now in let L = c.last-shown in let E = c.say.ensures in
    let loaded = seat_moved g.Versions.Table c.args.self.now v c.requires L.new.seat L.ensures.ours L.ensures.seen in
    call_moved g.Versions.Table c.args.self.now (record v { seat = L.new.seat }) loaded c.say.new.pass (say L.result) None E.own.0 E.own.1 E.said refl

pub returns-clause-keeps : goal.returns-clause-keeps
returns-clause-keeps g c =
    let L = c.last-shown in
    call_keeps g.Versions.Table c.args.self.now c.args.client.now c.requires L.new.seat L.ensures.seen.seen c.say.new.pass (say L.result) None c.say.ensures.said refl

pub returns-clause-had : goal.returns-clause-had
returns-clause-had g c =
    let L = c.last-shown in seen_before g.Versions.Table c.args.self.now c.args.client.now c.requires L.new.seat L.result L.ensures.seen.seen L.ensures.value

pub returns-clause-has : goal.returns-clause-has
returns-clause-has g c =
    let v = c.args.client.now in let L = c.last-shown in
    let is = L.ensures.value in
    let same = ap (λ (n : ℕ). last_of n (g.Versions.Table.account L.new.seat).seen) c.requires.idle.seated.start in
    omega (arith, is, same)
