-- The digits of a piece more.
use Rattle.std.proofs.Common.{[], ◌++◌, refl}
use Rattle.model_base.specs.Text.{hex}
use Rattle.program_printing.proofs.Putting.{none_put, same_put, then_put}
use Rattle.program_text.proofs.Words.{hex_parts}
use Rattle.program_text.proofs.lines.put_hex.Goals as goal

pub loop-rest-init : goal.loop-rest-init
loop-rest-init g c = ([], refl, none_put g.K.Sink c.args.printer.now c.args.sink.now)

pub loop-rest-preserved : goal.loop-rest-preserved
loop-rest-preserved g c =
    let so_far = c.loop-rest.invariant in
    let piece = c.split_at.result.0.now in
    (so_far.0 ++ hex piece, hex_parts so_far.0 piece c.split_at.result.1.now c.loop-rest.rest.now c.args.bytes.now c.split_at.ensures.by_index.0 so_far.1, then_put g.K.Sink _ _ _ _ _ _ so_far.0 (hex piece) so_far.2 c.put_piece.ensures)

pub returns : goal.returns
returns g c = let so_far = c.loop-rest.invariant in same_put g.K.Sink _ _ _ _ _ _ so_far.1 (then_put g.K.Sink _ _ _ _ _ _ so_far.0 (hex c.loop-rest.rest.now) so_far.2 c.put_piece-2.ensures)
