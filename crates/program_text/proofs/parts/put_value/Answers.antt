use Rattle.std.specs.Prelude.{codes, decimal}
use Rattle.program_text.proofs.Spaced.{three_words}
use Rattle.program_text.proofs.Loops.{as_text}
use Rattle.program_text.proofs.parts.put_value.Goals as goal

pub returns : goal.returns
returns g c = λ start text is.
    as_text g.K.Sink start _ _ _ _ (three_words text (codes "val") (decimal c.args.at) c.args.value.now)
    (c.put-4.ensures start _ (c.put-3.ensures start _ (c.put-2.ensures start _ (c.put_numbers.ensures start _ (c.put.ensures start text is)))))
