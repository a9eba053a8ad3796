use Rattle.std.proofs.Common.{◌≡◌, ℕ, ◌+◌, List, length, take, slice_range, replicate, ◌∙◌, ap, arith}
use Rattle.std.proofs.Math.ListN.{length-replicate}
use Rattle.std.proofs.lemmas.List.{take-replicate}
use Rattle.model_base.specs.Log as log
use Rattle.log_text.proofs.TextLengths.{piece_len}
use Rattle.log_text.specs.Laying.{laid_at}
use Rattle.log_text.proofs.Laid.{laid_three}
use Rattle.log_text.proofs.laying.lay_piece.Goals as goal

pub returns-clause-laid : goal.returns-clause-laid
returns-clause-laid c =
    let p = c.args.piece in
    let part : List ℕ = slice_range c.args.bytes.now p.start p.end in
    let zeros_are : take p.zeros (replicate {A = ℕ} 10 0) ≡ replicate {A = ℕ} p.zeros 0 = take-replicate p.zeros 10 0 c.requires.zeros in
    let header_is : c.as_slice.result.now ≡ log.header c.args.number p.kind part = c.as_slice.ensures ∙ c.header-header.ensures in
    laid_three c.args.at c.lay-header_at.result c.lay-part_at.result (replicate p.zeros 0) (log.header c.args.number p.kind part) part c.args.buffer.now c.lay-header_at.new.buffer c.lay-part_at.new.buffer c.lay.new.buffer
    (omega (arith, c.requires.room))
    (c.lay-header_at.ensures.laid ∙ ap (λ (l : List ℕ). laid_at c.args.at l c.args.buffer.now) zeros_are)
    (c.lay-header_at.ensures.end ∙ ap (λ (l : List ℕ). c.args.at + length l) zeros_are)
    (omega (arith, c.lay-header_at.ensures.end, ap length zeros_are, length-replicate {A = ℕ} p.zeros 0, piece_len c.args.number c.args.bytes.now p c.requires.ordered c.requires.in_record, c.requires.room, c.lay-header_at.auto.buffer))
    (c.lay-part_at.ensures.laid ∙ ap (λ (l : List ℕ). laid_at c.lay-header_at.result l c.lay-header_at.new.buffer) header_is)
    (c.lay-part_at.ensures.end ∙ ap (λ (l : List ℕ). c.lay-header_at.result + length l) header_is)
    c.lay.ensures.laid
