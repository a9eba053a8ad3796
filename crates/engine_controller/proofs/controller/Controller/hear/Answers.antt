use Rattle.std.proofs.Common.{refl, ◌∙◌}
use Rattle.engine_controller.proofs.Owned.{own_calls_with}
use Rattle.engine_controller.proofs.Spoken.{hears_it, hears_no_saying}
use Rattle.engine_controller.proofs.Tellings.{made_ends}
use Rattle.engine_controller.proofs.controller.Controller.hear.Goals as goal

pub returns-clause-own : goal.returns-clause-own
returns-clause-own g c =
    let own = c.requires.own in
    let told = c.hear_once-found.ensures in
    own_calls_with _ _ _ _ _ own (told.cell ∙ own.cell) told.hears refl refl refl (hears_no_saying c.args.pass.now c.args.most) (hears_it c.args.pass.now c.args.most c.requires.gathered)

pub returns-clause-heard : goal.returns-clause-heard
returns-clause-heard g c = made_ends _ _ _ _ c.hear_once-found.ensures.hears
