use Rattle.crossbeam_utils.specs.Seq.{cell_view}
use Rattle.std.proofs.Common.{◌≡◌}
use Rattle.engine_controller.specs.Rule.{IsInRange}
use Rattle.engine_controller.proofs.Tellings.{Follows}
use Rattle.engine_controller.proofs.controller.Controller.call.Given as goal

-- the history goes on by calls of others, and the numbers that were found last are numbers of it
abbrev pub invariant-loop : goal.invariant-loop
invariant-loop g l = (l.seat.table_id ≡ l.fn.seat.table_id) × Follows (cell_view l.fn.seat) (cell_view l.seat) × IsInRange l.found

-- an exchange asks for this call, at the numbers that were found last
abbrev pub ghosts-exchange : goal.ghosts-exchange
ghosts-exchange g a = record { call = a.action; found = a.found }
