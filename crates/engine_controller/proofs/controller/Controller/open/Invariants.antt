use Rattle.std.proofs.Common.{◌≡◌, ℕ, length, Some}
use Rattle.std.specs.Prelude.{slice_get}
use Rattle.crossbeam_utils.specs.Seq.{cell_view}
use Rattle.engine_controller.specs.declared.pass.Pass.{Pass}
use Rattle.engine_controller.specs.Rule.{others}
use Rattle.engine_controller.proofs.Spoken.{IsFresh}
use Rattle.engine_controller.proofs.controller.Controller.open.Given as goal

-- the passes so far are those of the first clients, and the rest covers all others
abbrev pub invariant-loop-known : goal.invariant-loop-known
invariant-loop-known g l =
    (length l.passes.items ≡ l.known) × (l.rest.table_id ≡ l.cell.table.shared.table_id) × (cell_view l.rest ≡ others l.known)
    × ((i : ℕ) (p : Pass) → slice_get l.passes.items i ≡ Some p → IsFresh l.cell.table.shared.table_id l.board.words.shared.table_id i p)
    × (l.first.seat.table_id ≡ l.board.words.shared.table_id)
