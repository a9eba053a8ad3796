use Rattle.model_base.specs.Text.{hex_word}
use Rattle.program_text.proofs.Loops.{as_text}
use Rattle.program_text.proofs.Pairs.{behind_family}
use Rattle.program_text.proofs.recovered_state.put_hex_pair.Goals as goal

pub returns : goal.returns
returns g c = λ start text is.
    as_text g.K.Sink start _ _ _ _ (behind_family text hex_word c.args.family c.args.key.now c.args.value.now) (c.put_hex_row.ensures start _ (c.put_family.ensures start text is))
