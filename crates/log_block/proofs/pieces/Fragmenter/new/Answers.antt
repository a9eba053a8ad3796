use Rattle.std.proofs.Common.{◌≡◌, ℕ, ◌-◌, ◌%◌, List, length, Option, Some, sym, subst, arith}
use Rattle.std.specs.Int.{div_ceil}
use Rattle.model_base.specs.Log as log
use Rattle.log_block.specs.declared.pieces.Piece.{Piece}
use Rattle.log_block.specs.Pieces as pieces
use Rattle.log_block.specs.Cutting as cutting
use Rattle.log_block.proofs.Counting.{is_count, few_pieces, length-later_pieces, all_pieces}
use Rattle.log_block.proofs.Cuts.{whole_are}
use Rattle.log_block.proofs.Laid.{whole_cover, whole_stand}
use Rattle.log_block.proofs.Texts.{text_is}
use Rattle.log_block.proofs.pieces.Fragmenter.new.Goals as goal

-- the first piece and all pieces after it
abbrev all_from : Option ℕ → Piece → ℕ → List Piece
all_from number p len = cutting.still_to_come number (Some p) len

are_all : (number : Option ℕ) (bytes : List ℕ) (offset at len : ℕ) (p : Piece) → p ≡ cutting.first_piece number at len → length bytes ≡ len → offset % 32768 ≡ at
    → pieces.ArePieces number bytes offset 0 (all_from number p len) (log.as_fragments (log.parts_of number offset bytes))
are_all number bytes offset at len p is len_is e =
    subst (λ (q : Piece). pieces.ArePieces number bytes offset 0 (all_from number q len) (log.as_fragments (log.parts_of number offset bytes))) (sym is)
    (subst (λ (n : ℕ). pieces.ArePieces number bytes offset 0 (all_pieces number at n) (log.as_fragments (log.parts_of number offset bytes))) len_is (whole_are number bytes offset at e))

pub returns-clause-pieces : goal.returns-clause-pieces
returns-clause-pieces c = λ offset bytes e len_is. are_all c.args.number bytes offset c.args.block_offset c.args.len c.first_piece.result c.first_piece.ensures len_is e

pub returns-clause-text : goal.returns-clause-text
returns-clause-text c = λ offset bytes e len_is.
    text_is c.args.number bytes offset 0 (all_from c.args.number c.first_piece.result c.args.len) (log.as_fragments (log.parts_of c.args.number offset bytes))
    (are_all c.args.number bytes offset c.args.block_offset c.args.len c.first_piece.result c.first_piece.ensures len_is e)

pub returns-clause-cut : goal.returns-clause-cut
returns-clause-cut c = subst (λ (q : Piece). pieces.CoverRecord c.args.len 0 (all_from c.args.number q c.args.len)) (sym c.first_piece.ensures) (whole_cover c.args.number c.args.block_offset c.args.len)

pub returns-clause-laid : goal.returns-clause-laid
returns-clause-laid c =
    subst (λ (q : Piece). pieces.LieInBlocks c.args.number c.args.block_offset (all_from c.args.number q c.args.len)) (sym c.first_piece.ensures) (whole_stand c.args.number c.args.block_offset c.args.len c.requires)

pub returns-clause-bound : goal.returns-clause-bound
returns-clause-bound c =
    let left : ℕ = c.args.len - c.first_piece.result.end in
    let n : ℕ = div_ceil left (log.part_len c.args.number) in
    omega (arith, length-later_pieces c.args.number n c.first_piece.result.end c.args.len, few_pieces c.args.number left n (is_count c.args.number left), c.ranges.len.fits)
