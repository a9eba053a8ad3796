use Rattle.std.proofs.Common.{[], ◌∷◌}
use Rattle.std.specs.Prelude.{decimal}
use Rattle.program_text.proofs.Spaced.{line_pieces}
use Rattle.program_text.proofs.Loops.{as_text}
use Rattle.program_text.proofs.recovered.put_group.Goals as goal

pub returns : goal.returns
returns g c = λ start text is.
    let group = c.args.group.now in
    as_text g.K.Sink start _ _ _ _ (line_pieces text (decimal group.first) (group.count ∷ group.size ∷ []))
    (rw c.from.ensures at (c.put.ensures start _ (c.put_numbers.ensures start _ (c.put_number.ensures start text is))))
