use Rattle.std.proofs.Common.{◌∷◌, ap, sym, ◌∙◌}
use Rattle.log_block.specs.Cutting as cutting
use Rattle.log_block.proofs.pieces.FragmenterIterator.next.Goals as goal

pub returns-clause-steps : goal.returns-clause-steps
returns-clause-steps c =
    sym c.self.view_is
    ∙ (ap (λ o. cutting.still_to_come c.self.inside.number o c.self.inside.len) c.in_ok-piece.was ∙ ap (λ l. c.in_ok-piece.piece ∷ l) (sym c.piece_behind-self-inside.ensures))
