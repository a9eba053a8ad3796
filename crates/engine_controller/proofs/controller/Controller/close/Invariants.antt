use Rattle.std.proofs.Common.{◌≡◌, ℕ, ◌++◌, Some}
use Rattle.std.specs.Prelude.{slice_get}
use Rattle.crossbeam_utils.specs.Seq.{cell_view}
use Rattle.engine_controller.specs.declared.pass.Pass.{Pass}
use Rattle.engine_controller.specs.Rule.{others}
use Rattle.engine_controller.specs.Passes.{board_of}
use Rattle.engine_controller.proofs.Closings.{observers_of}
use Rattle.engine_controller.proofs.Spoken.{Grows}
use Rattle.engine_controller.proofs.controller.Controller.close.Given as goal

-- the observers of the passes so far come after the others' observer, and what their clients know of the board is known
abbrev pub invariant-loop-pass : goal.invariant-loop-pass
invariant-loop-pass g l =
    (l.rest.table_id ≡ l.cell.table.shared.table_id) × (cell_view l.rest ≡ others l.fn.self.clients ++ observers_of l.yielded) × (l.yielded ++ l.pass-iterator.rest.items ≡ l.fn.passes.clients.items)
    × (l.first.seat.table_id ≡ l.board.words.shared.table_id) × ((i : ℕ) (p : Pass) → slice_get l.yielded i ≡ Some p → Grows (board_of p) l.first.seat.me.0)
