use Rattle.std.proofs.Common.{◌∙◌}
use Rattle.engine_controller.proofs.Moves.{note_copies}
use Rattle.engine_controller.proofs.controller.Controller.copies.Goals as goal

pub split-requires-clause-rule : goal.split-requires-clause-rule
split-requires-clause-rule g c = note_copies _ _ _ c.note.invariant.0

pub split-requires-2-clause-rule : goal.split-requires-2-clause-rule
split-requires-2-clause-rule g c = note_copies _ _ _ (c.split.ensures.kept.1 ∙ c.note.invariant.0)
