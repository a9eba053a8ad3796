-- Refusals at a stall: what the clients asked the controller, and what they were told.
use Rattle.std.specs.Prelude.{ℕ, List, [], ◌∷◌, Some, None}
use Rattle.model_base.specs.Controller as controller
use Rattle.model_base.specs.Controller.{ControllerCall, Look}
use Rattle.model_base.specs.Progress.{Progress, fresh}
use Rattle.model_rows.specs.Examples.{put_a1}

-- a client begins a commit, and has seen nothing of the controller
abbrev pub begun : Progress
begun = record fresh { pending = put_a1 ∷ [] }

abbrev pub no_tokens : Look
no_tokens = record { stops = 0; delays = 0; wait = 0 }

abbrev pub one_stop : Look
one_stop = record { stops = 1; delays = 0; wait = 0 }

abbrev pub one_slow : Look
one_slow = record { stops = 0; delays = 1; wait = 0 }

-- client 2 stops writes
abbrev pub stopping : ControllerCall
stopping = record { client = 2; action = controller.stop 0; told = None }

-- client 1 asks for the delay of a group, and is told this
abbrev pub asking : Look → ControllerCall
asking numbers = record { client = 1; action = controller.delay 0 17; told = Some numbers }

-- this client looks, and sees this
abbrev pub looking : ℕ → Look → ControllerCall
looking by numbers = record { client = by; action = controller.look; told = Some numbers }

-- client 2 stops writes, client 1 is told of that when it asks for its group's delay, and then this client looks
abbrev pub looked_by : ℕ → List ControllerCall
looked_by by = stopping ∷ asking one_stop ∷ looking by one_stop ∷ []

-- the same, where client 1 asks before the stop
abbrev pub asked_before : ℕ → List ControllerCall
asked_before by = asking no_tokens ∷ stopping ∷ looking by one_stop ∷ []

-- client 2 slows writes down, a group of this client has to wait, and then client 3 looks
abbrev pub waited_by : ℕ → List ControllerCall
waited_by by =
    record { client = 2; action = controller.slow 1 0; told = None }
    ∷ record {
      client = by;
      action = controller.delay 1000 17;
      told = Some (record one_slow { wait = 16001000 });
    }
    ∷ looking 3 one_slow ∷ []
