use Rattle.std.proofs.Common.{ℕ, List, ◌+◌, ◌%◌, refl, sym, ap, subst, arith, length-append}
use Rattle.log_block.specs.declared.pieces.Piece.{Piece}
use Rattle.log_block.specs.Pieces.{CoverRecord}
use Rattle.log_writer.proofs.Pieces.{IsSoFar, starts_so, put_of, may_put_next, put_len, puts_next, goes_on, breaks_off}
use Rattle.log_writer.proofs.puts.put_record.Goals as goal

pub loop-piece-init : goal.loop-piece-init
loop-piece-init g c =
    let bytes = c.args.rest.now in
    let offset = c.args.offset in
    let items = c.new-piece-items in
    let at = offset % 32768 in
    let P : List Piece → Type 0 = λ pieces. IsSoFar g.D.Disk c.args.number bytes offset c.args.disk.now c.args.disk.now bytes pieces offset in
    let cut = subst (λ (n : ℕ). CoverRecord n 0 items.result) c.requires.whole items.ensures.cut in
    record {
      so_far = subst P (sym c.into_iter-piece-iterator.ensures.into_iter_gives)
          (starts_so g.D.Disk c.args.number bytes offset at c.args.disk.now items.result (g.met.D.Disk.only_now c.args.disk.now) (items.ensures.text offset bytes refl (sym c.requires.whole)) cut items.ensures.laid);
    }

pub returns-in_err-put_piece-clause-put : goal.returns-in_err-put_piece-clause-put
returns-in_err-put_piece-clause-put g c =
    let now = subst (λ (ps : List Piece). IsSoFar g.D.Disk c.args.number c.args.rest.now c.args.offset c.args.disk.now c.loop-piece.disk c.loop-piece.rest ps c.loop-piece.end) c.in-Some.ensures.steps c.loop-piece.invariant.so_far in
    breaks_off g.D.Disk c.args.number c.args.rest.now c.args.offset c.args.disk.now c.loop-piece.disk c.loop-piece.rest c.in-Some.piece c.next.new.self c.loop-piece.end now
    c.put_piece.new.disk c.in_err-put_piece.field-0.0 c.from_residual.result (g.met.D.Disk.is_disk c.args.disk.now) c.from_residual.ensures.0 c.in_err-put_piece.ensures.put

pub put_piece-requires-clause-zeros : goal.put_piece-requires-clause-zeros
put_piece-requires-clause-zeros g c = (may_put_next g.D.Disk c.args.number c.args.rest.now c.args.offset c.args.disk.now c.loop-piece.disk c.loop-piece.rest c.loop-piece.end _ c.in-Some.piece c.next.new.self c.in-Some.ensures.steps c.loop-piece.invariant.so_far).zeros

pub put_piece-requires-clause-ordered : goal.put_piece-requires-clause-ordered
put_piece-requires-clause-ordered g c = (may_put_next g.D.Disk c.args.number c.args.rest.now c.args.offset c.args.disk.now c.loop-piece.disk c.loop-piece.rest c.loop-piece.end _ c.in-Some.piece c.next.new.self c.in-Some.ensures.steps c.loop-piece.invariant.so_far).ordered

pub put_piece-requires-clause-fits : goal.put_piece-requires-clause-fits
put_piece-requires-clause-fits g c = (may_put_next g.D.Disk c.args.number c.args.rest.now c.args.offset c.args.disk.now c.loop-piece.disk c.loop-piece.rest c.loop-piece.end _ c.in-Some.piece c.next.new.self c.in-Some.ensures.steps c.loop-piece.invariant.so_far).fits

pub put_piece-requires-clause-there : goal.put_piece-requires-clause-there
put_piece-requires-clause-there g c = (may_put_next g.D.Disk c.args.number c.args.rest.now c.args.offset c.args.disk.now c.loop-piece.disk c.loop-piece.rest c.loop-piece.end _ c.in-Some.piece c.next.new.self c.in-Some.ensures.steps c.loop-piece.invariant.so_far).there

pub piece_len-end-requires-clause-zeros : goal.piece_len-end-requires-clause-zeros
piece_len-end-requires-clause-zeros g c = (may_put_next g.D.Disk c.args.number c.args.rest.now c.args.offset c.args.disk.now c.loop-piece.disk c.loop-piece.rest c.loop-piece.end _ c.in-Some.piece c.next.new.self c.in-Some.ensures.steps c.loop-piece.invariant.so_far).zeros

pub piece_len-end-requires-clause-ordered : goal.piece_len-end-requires-clause-ordered
piece_len-end-requires-clause-ordered g c = (may_put_next g.D.Disk c.args.number c.args.rest.now c.args.offset c.args.disk.now c.loop-piece.disk c.loop-piece.rest c.loop-piece.end _ c.in-Some.piece c.next.new.self c.in-Some.ensures.steps c.loop-piece.invariant.so_far).ordered

pub piece_len-end-requires-clause-fits : goal.piece_len-end-requires-clause-fits
piece_len-end-requires-clause-fits g c = (may_put_next g.D.Disk c.args.number c.args.rest.now c.args.offset c.args.disk.now c.loop-piece.disk c.loop-piece.rest c.loop-piece.end _ c.in-Some.piece c.next.new.self c.in-Some.ensures.steps c.loop-piece.invariant.so_far).fits

pub overflow_add-end : goal.overflow_add-end
overflow_add-end g c =
    let now = subst (λ (ps : List Piece). IsSoFar g.D.Disk c.args.number c.args.rest.now c.args.offset c.args.disk.now c.loop-piece.disk c.loop-piece.rest ps c.loop-piece.end) c.in-Some.ensures.steps c.loop-piece.invariant.so_far in
    let put = puts_next g.D.Disk c.args.number c.args.rest.now c.args.offset c.args.disk.now c.loop-piece.disk c.loop-piece.rest c.in-Some.piece c.next.new.self c.loop-piece.end now
    c.put_piece.new.disk c.in_ok-put_piece.field-0 (g.met.D.Disk.is_disk c.args.disk.now) c.in_ok-put_piece.ensures.put in
    let len = put_len g.D.Disk c.args.number c.args.rest.now c.args.offset c.args.disk.now c.loop-piece.disk c.loop-piece.rest c.in-Some.piece c.next.new.self c.loop-piece.end now in
    omega (arith, put.counted, len, c.piece_len-end.ensures, now.end_is, length-append now.done (put_of c.args.number c.loop-piece.rest c.in-Some.piece), c.requires.counted, g.met.D.Disk.added_small c.put_piece.new.disk)

pub loop-piece-preserved : goal.loop-piece-preserved
loop-piece-preserved g c =
    let now = subst (λ (ps : List Piece). IsSoFar g.D.Disk c.args.number c.args.rest.now c.args.offset c.args.disk.now c.loop-piece.disk c.loop-piece.rest ps c.loop-piece.end) c.in-Some.ensures.steps c.loop-piece.invariant.so_far in
    record {
      so_far = goes_on g.D.Disk c.args.number c.args.rest.now c.args.offset c.args.disk.now c.loop-piece.disk c.loop-piece.rest c.in-Some.piece c.next.new.self c.loop-piece.end now
          c.put_piece.new.disk c.put_piece.new.rest (c.loop-piece.end + c.piece_len-end.result) c.in_ok-put_piece.field-0 (g.met.D.Disk.is_disk c.args.disk.now) c.in_ok-put_piece.ensures.put c.in_ok-put_piece.ensures.rest
          (ap (λ (n : ℕ). c.loop-piece.end + n) c.piece_len-end.ensures);
    }
