use Rattle.program_text.proofs.Spaced.{two_words}
use Rattle.program_text.proofs.Loops.{as_text}
use Rattle.program_text.proofs.states.put_row.Goals as goal

pub returns : goal.returns
returns g c = λ start text is.
    as_text g.K.Sink start _ _ _ _ (two_words text c.args.key.now c.args.value.now) (c.put-4.ensures start _ (c.put-3.ensures start _ (c.put-2.ensures start _ (c.put.ensures start text is))))
