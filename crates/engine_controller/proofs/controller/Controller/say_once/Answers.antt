use Rattle.engine_controller.proofs.Moves.{says_picked}
use Rattle.engine_controller.proofs.controller.Controller.say_once.Goals as goal

pub load-requires-clause-rule : goal.load-requires-clause-rule
load-requires-clause-rule g c = says_picked _ _ _ _ _ _ c.requires.picked _ c.requires.view
