use Rattle.engine_controller.proofs.Moves.{hears_picked}
use Rattle.engine_controller.proofs.controller.Controller.hear_once.Goals as goal

pub load-requires-clause-rule : goal.load-requires-clause-rule
load-requires-clause-rule g c = hears_picked _ _ _ _ _ c.requires.picked _ c.requires.view
