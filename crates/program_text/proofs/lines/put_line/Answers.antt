-- The words and the numbers, joined by spaces.
use Rattle.program_text.proofs.Spaced.{line_pieces}
use Rattle.program_text.proofs.Loops.{as_text}
use Rattle.program_text.proofs.lines.put_line.Goals as goal

pub returns : goal.returns
returns g c = λ start text is.
    as_text g.K.Sink start _ _ _ _ (line_pieces text c.args.words.now c.args.numbers.now) (c.put-2.ensures start _ (c.put_numbers.ensures start _ (c.put.ensures start text is)))
