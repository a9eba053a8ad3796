use Rattle.model_base.specs.Text.{hex_word}
use Rattle.program_text.proofs.Spaced.{two_words}
use Rattle.program_text.proofs.Loops.{as_text}
use Rattle.program_text.proofs.recovered_state.put_hex_row.Goals as goal

pub returns : goal.returns
returns g c = λ start text is.
    as_text g.K.Sink start _ _ _ _ (two_words text (hex_word c.args.key.now) (hex_word c.args.value.now)) (c.put-2.ensures start _ (c.put_hex_word-2.ensures start _ (c.put.ensures start _ (c.put_hex_word.ensures start text is))))
