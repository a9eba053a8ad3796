use Rattle.std.specs.Prelude.{decimal}
use Rattle.program_text.proofs.Spaced.{reason_behind_two}
use Rattle.program_text.proofs.Loops.{as_text}
use Rattle.program_text.proofs.recovered.put_numbered_end.Goals as goal

pub returns : goal.returns
returns g c = λ start text is.
    as_text g.K.Sink start _ _ _ _ (reason_behind_two text c.args.word.now (decimal c.args.log) (decimal c.args.at) c.args.why)
    (c.put_reason.ensures start _ (c.put-2.ensures start _ (c.put_numbers.ensures start _ (c.put.ensures start text is))))
