use Rattle.std.proofs.Common.{true, false, ap, arith, refl}
use Rattle.model_base.specs.Controller as controller
use Rattle.model_base.specs.Tokens.{holds_slow}
use Rattle.engine_controller.specs.Delays.{delays_of}
use Rattle.engine_groups.proofs.ClientMoves.{call_moved, pass_moved}
use Rattle.engine_groups.proofs.TokenCalls.{asks_if, refused}
use Rattle.engine_groups.proofs.engine.GroupEngine.slow.Goals as goal

pub hear-requires : goal.hear-requires
hear-requires g c =
    let E = c.slow.ensures in let v = c.say-shown.new.client in
    call_moved g.Versions.Table c.args.self.now v c.say-shown.ensures.belongs c.slow.new.pass (controller.slow c.args.rate c.say-shown.result) _ E.own.0 E.own.1 c.in_ok-slow.ensures.done.1 refl

pub returns-clause-done : goal.returns-clause-done
returns-clause-done g c =
    let Y = c.say-shown in let H = c.hear.ensures in let done = c.in_ok-slow.ensures.done in
    let t = asks_if g.Versions.Table c.args.self.now c.args.client.now Y.new.client Y.ensures.keeps Y.ensures.belongs Y.result Y.ensures.had Y.ensures.has Y.ensures.said c.slow.new.pass c.slow.ensures.own.1 (controller.slow c.args.rate c.say-shown.result) done.1 c.hear.new.client H.keeps H.heard holds_slow false refl refl done.0 in
    (t.0, Y.result, t.1)

-- it was refused, and nothing was called
pub returns-in_err-slow-clause-belongs : goal.returns-in_err-slow-clause-belongs
returns-in_err-slow-clause-belongs g c =
    let E = c.slow.ensures in let v = c.say-shown.new.client in let same = c.in_err-slow.ensures.held.1 in
    pass_moved g.Versions.Table c.args.self.now v c.say-shown.ensures.belongs c.slow.new.pass E.own.0 E.own.1 (ap (delays_of v.number) same)

pub returns-in_err-slow-clause-held : goal.returns-in_err-slow-clause-held
returns-in_err-slow-clause-held g c =
    let Y = c.say-shown in let same = c.in_err-slow.ensures.held in
    refused g.Versions.Table c.args.self.now c.args.client.now Y.new.client Y.ensures.keeps Y.ensures.belongs _ holds_slow true c.slow.new.pass same.0 same.1
