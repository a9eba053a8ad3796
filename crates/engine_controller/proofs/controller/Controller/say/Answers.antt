use Rattle.std.proofs.Common.{refl, ◌∙◌}
use Rattle.engine_controller.proofs.Owned.{own_follows, own_calls_with}
use Rattle.engine_controller.proofs.Spoken.{says_it, says_no_hearing}
use Rattle.engine_controller.proofs.Tellings.{sees_follows, sees_shown, follows_trans, follows_makes, made_ends}
use Rattle.engine_controller.proofs.controller.Controller.say.Goals as goal

pub returns-then-marked-found-clause-own : goal.returns-then-marked-found-clause-own
returns-then-marked-found-clause-own g c =
    let i = c.loop.invariant in
    let own = i.0 in
    let told = c.say_once-found.ensures in
    let after = own_calls_with _ _ _ _ _ own (told.cell ∙ own.cell) (told.says.made c.if-marked-found.true) refl refl refl (says_it c.loop.pass c.args.shown _ i.3) (says_no_hearing c.loop.pass c.args.shown _) in
    (after.0, after.1 ∙ i.1)

pub returns-then-marked-found-clause-said : goal.returns-then-marked-found-clause-said
returns-then-marked-found-clause-said g c = made_ends _ _ _ _ (follows_makes _ _ _ _ _ c.loop.invariant.2 (c.say_once-found.ensures.says.made c.if-marked-found.true))

pub loop-preserved : goal.loop-preserved
loop-preserved g c =
    let i = c.loop.invariant in
    let own = i.0 in
    let told = c.say_once-found.ensures in
    let seen = told.says.other c.if-marked-found.false in
    let goes = sees_follows _ _ _ _ seen in
    let after = own_follows _ _ _ own (told.cell ∙ own.cell) goes (sees_shown _ _ _ _ seen) refl in
    (after.0, after.1 ∙ i.1, follows_trans _ _ _ i.2 goes, i.3)
