use Rattle.std.proofs.Common.{◌≡◌}
use Rattle.crossbeam_utils.specs.Seq.{cell_view}
use Rattle.engine_controller.specs.declared.numbers.Action.TheVariants.{Say}
use Rattle.engine_controller.specs.Passes.{client_of, IsPassOf, HasAnnounced}
use Rattle.engine_controller.proofs.Tellings.{Follows}
use Rattle.engine_controller.proofs.controller.Controller.say.Given as goal

-- the history goes on by calls of others, and what is said is on the board
abbrev pub invariant-loop : goal.invariant-loop
invariant-loop g l = IsPassOf l.self l.pass × (client_of l.pass ≡ client_of l.fn.pass) × Follows (cell_view l.fn.pass.seat) (cell_view l.pass.seat) × HasAnnounced l.pass l.shown l.marked

-- a load asks for this call, with the mark that was found
abbrev pub ghosts-say_once : goal.ghosts-say_once
ghosts-say_once g a = record { call = Say a.shown a.marked; found = record { stops = 0; delays = 0; rate = 1; credit = 0; next = 0; held_up = 0; shown = 0; tokens = 0 } }
