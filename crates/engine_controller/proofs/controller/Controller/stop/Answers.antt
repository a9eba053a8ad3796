use Rattle.std.proofs.Common.{refl, sym, ◌∙◌}
use Rattle.engine_controller.proofs.Owned.{own_calls}
use Rattle.engine_controller.proofs.Tellings.{made_ends}
use Rattle.engine_controller.proofs.controller.Controller.stop.Goals as goal

pub returns-clause-own : goal.returns-clause-own
returns-clause-own g c =
    let own = c.requires.own in
    let told = c.call.ensures in
    own_calls _ _ _ _ _ own (told.cell ∙ own.cell) told.made.1 told.made.3 told.made.4 refl refl

pub returns-clause-done : goal.returns-clause-done
returns-clause-done g c = (sym c.requires.own.stopping ∙ c.if-pass.false, made_ends _ _ _ _ c.call.ensures.made.1)
