use Rattle.std.proofs.Common.{Some, sym, ◌∙◌, ap}
use Rattle.log_block.specs.declared.pieces.Piece.{Piece}
use Rattle.log_block.specs.Cutting as cutting
use Rattle.log_block.proofs.Counting.{pieces_behind, none_behind}
use Rattle.log_block.proofs.pieces.piece_behind.Goals as goal

pub returns-then-start-len : goal.returns-then-start-len
returns-then-start-len c =
    ap (λ (q : Piece). cutting.still_to_come c.args.number (Some q) c.args.len) c.later_piece.ensures ∙ sym (pieces_behind c.args.number c.args.start c.args.len c.if-start-len.true)

pub returns-else-start-len : goal.returns-else-start-len
returns-else-start-len c = sym (none_behind c.args.number c.args.start c.args.len c.if-start-len.false)
