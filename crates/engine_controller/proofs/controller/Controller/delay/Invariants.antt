use Rattle.std.specs.Option.{unwrap_or}
use Rattle.engine_controller.specs.declared.numbers.Action.TheVariants.{Delay}
use Rattle.engine_controller.proofs.controller.Controller.delay.Given as goal

-- where no client stops or slows writes, the moment is the last one that the clock answered, or 0
abbrev pub ghosts-ask_unslowed : goal.ghosts-ask_unslowed
ghosts-ask_unslowed g a = record {
  call = Delay (unwrap_or (g.Time.Clock.last a.clock.now) 0) a.bytes;
  found = record { stops = 0; delays = 0; rate = 1; credit = 0; next = 0; held_up = 0; shown = 0; tokens = 0 };
}
