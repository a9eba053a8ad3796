use Rattle.std.proofs.Common.{refl}
use Rattle.engine_controller.proofs.Moves.{copies}
use Rattle.engine_controller.proofs.Owned.{own_same}
use Rattle.engine_controller.proofs.controller.Controller.note.Goals as goal

pub split-requires : goal.split-requires
split-requires g c =
    let own = c.requires.own in
    record { cell = own.cell; rule = copies _ _ _ _ own.view }

pub returns-clause-own : goal.returns-clause-own
returns-clause-own g c =
    let kept = c.split.ensures.kept in
    own_same _ _ _ c.requires.own kept.0 kept.1 refl
