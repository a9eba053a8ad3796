use Rattle.engine_controller.proofs.Moves.{asks_picked}
use Rattle.engine_controller.proofs.controller.Controller.ask_unslowed.Goals as goal

pub load-requires : goal.load-requires
load-requires g c =
    let r = c.requires in
    record { cell = r.cell; rule = asks_picked _ _ _ _ r.picked.0 _ r.picked.2 _ r.view }
