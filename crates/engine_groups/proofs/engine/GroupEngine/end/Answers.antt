use Rattle.engine_groups.proofs.ClientMoves.{end_moved}
use Rattle.engine_groups.proofs.TokenCalls.{end_gives}
use Rattle.engine_groups.proofs.engine.GroupEngine.end.Goals as goal

pub returns-clause-belongs : goal.returns-clause-belongs
returns-clause-belongs g c =
    let E = c.end.ensures in let Y = c.say-shown in
    end_moved g.Versions.Table c.args.self.now Y.new.client Y.ensures.belongs Y.result c.end.new.pass E.calls.0 _ _ E.calls.1 E.calls.2 E.own.0 E.own.1

pub returns-clause-back : goal.returns-clause-back
returns-clause-back g c =
    let E = c.end.ensures in let Y = c.say-shown in
    end_gives g.Versions.Table c.args.self.now c.args.client.now Y.new.client Y.ensures.keeps Y.ensures.belongs Y.result Y.ensures.had Y.ensures.has Y.ensures.said c.end.new.pass E.own.1 E.tokens E.calls.0 E.calls.1 E.calls.2
