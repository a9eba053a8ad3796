use Rattle.std.proofs.Common.{◌≡◌, ◌∙◌}
use Rattle.std.specs.Prelude.{decimal}
use Rattle.program_text.proofs.Loops.{as_text}
use Rattle.program_text.proofs.Spaced.{two_words}
use Rattle.program_text.proofs.summary.put_number_line.Goals as goal

pub returns : goal.returns
returns g c = λ start text is.
    let digits : c.as_bytes.result.now ≡ decimal c.args.number = c.as_bytes.ensures.value ∙ c.format.ensures.text in
    as_text g.K.Sink start _ _ _ _ (two_words text c.args.word.now (decimal c.args.number))
    (rw digits at (c.put-4.ensures start _ (c.put-3.ensures start _ (c.put-2.ensures start _ (c.put.ensures start text is)))))
