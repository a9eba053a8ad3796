use Rattle.engine_controller.specs.declared.numbers.Action.TheVariants.{Hear}
use Rattle.engine_controller.proofs.controller.Controller.hear.Given as goal

-- the load asks for this call
abbrev pub ghosts-hear_once : goal.ghosts-hear_once
ghosts-hear_once g a = record { call = Hear a.most; found = record { stops = 0; delays = 0; rate = 1; credit = 0; next = 0; held_up = 0; shown = 0; tokens = 0 } }
