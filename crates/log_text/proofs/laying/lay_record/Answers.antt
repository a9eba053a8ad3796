use Rattle.std.proofs.Common.{◌≡◌, ◌%◌, List, length, min, refl, sym, subst, arith}
use Rattle.model_base.specs.Log as log
use Rattle.log_block.specs.declared.pieces.Piece.{Piece}
use Rattle.log_text.proofs.Laid.{IsSoFar, starts_so, room, goes_on}
use Rattle.log_text.proofs.laying.lay_record.Goals as goal

pub loop-piece-init : goal.loop-piece-init
loop-piece-init c =
    let bytes = c.args.bytes.now in
    let items = c.new-piece-items in
    let P : List Piece → Type 0 = λ pieces. IsSoFar c.args.number bytes c.args.offset c.args.buffer.now c.args.buffer.now pieces 0 in
    record {
      so_far = subst P (sym c.into_iter-piece-iterator.ensures.into_iter_gives)
          (starts_so c.args.number bytes c.args.offset (c.args.offset % 32768) c.args.buffer.now items.result (items.ensures.text c.args.offset bytes refl refl) items.ensures.cut items.ensures.laid);
    }

pub lay_piece-end-requires-clause-room : goal.lay_piece-end-requires-clause-room
lay_piece-end-requires-clause-room c =
    let text_len_is : c.text_len.result ≡ min (length (log.record_text c.args.number c.args.offset c.args.bytes.now)) 18446744073709551615 = c.text_len.ensures c.args.bytes.now refl in
    room c.args.number c.args.bytes.now c.args.offset c.args.buffer.now c.loop-piece.buffer c.in-Some.piece c.next.new.self c.loop-piece.piece-iterator c.loop-piece.end c.in-Some.ensures.steps c.loop-piece.invariant.so_far
    (omega (arith, text_len_is, c.if-buffer-text_len.false))

pub loop-piece-preserved : goal.loop-piece-preserved
loop-piece-preserved c = record {
  so_far = goes_on c.args.number c.args.bytes.now c.args.offset c.args.buffer.now c.loop-piece.buffer c.in-Some.piece c.next.new.self c.loop-piece.piece-iterator c.loop-piece.end c.in-Some.ensures.steps c.loop-piece.invariant.so_far
      c.lay_piece-end.new.buffer c.lay_piece-end.result c.lay_piece-end.ensures.laid c.lay_piece-end.ensures.end;
}
