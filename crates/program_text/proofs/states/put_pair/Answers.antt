use Rattle.program_text.specs.ShownText.{plain}
use Rattle.program_text.proofs.Loops.{as_text}
use Rattle.program_text.proofs.Pairs.{behind_family}
use Rattle.program_text.proofs.states.put_pair.Goals as goal

pub returns : goal.returns
returns g c = λ start text is.
    as_text g.K.Sink start _ _ _ _ (behind_family text plain c.args.family c.args.key.now c.args.value.now) (c.put_row.ensures start _ (c.put_family.ensures start text is))
