-- The answer that a caller gets, as the equations have it.
use Rattle.model_base.specs.Controller as controller
use Rattle.engine_controller.specs.declared.look.Look.{Look}
use Rattle.engine_controller.specs.Numbers.{wait_after}

abbrev pub look_of : Look → controller.Look
look_of l = record { stops = l.stops; delays = l.delays; wait = l.wait }

-- the answer of a call at these numbers
abbrev pub look_at : controller.Numbers → controller.Action → controller.Look
look_at n action = controller.look_with n (wait_after n action)
