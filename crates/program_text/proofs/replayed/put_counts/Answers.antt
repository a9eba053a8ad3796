use Rattle.std.specs.Prelude.{codes, decimal}
use Rattle.program_text.proofs.Spaced.{pair_of_counts}
use Rattle.program_text.proofs.Loops.{as_text}
use Rattle.program_text.proofs.replayed.put_counts.Goals as goal

pub returns : goal.returns
returns g c = λ start text is.
    let counts = c.args.counts in
    as_text g.K.Sink start _ _ _ _ (pair_of_counts text (codes "events") (decimal counts.taken) (codes "skipped") (decimal counts.skipped))
    (c.put_line.ensures start _ (c.put_numbers.ensures start _ (c.put.ensures start text is)))
