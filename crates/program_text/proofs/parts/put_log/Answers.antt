-- The pieces, joined by spaces.
use Rattle.program_text.proofs.Words.{log_pieces, fault_pieces}
use Rattle.program_text.proofs.Loops.{as_text}
use Rattle.program_text.proofs.parts.put_log.Goals as goal

pub returns-in-None : goal.returns-in-None
returns-in-None g c = λ start text is.
    rw c.in-None.is (as_text g.K.Sink start _ _ _ _ (log_pieces text c.args.full_lens.now c.args.len)
    (c.put-in-None.ensures start _ (c.put_numbers-2.ensures start _ (c.put_numbers.ensures start _ (c.put.ensures start text is)))))

pub returns-in-Some : goal.returns-in-Some
returns-in-Some g c = λ start text is.
    rw c.in-Some.is (as_text g.K.Sink start _ _ _ _ (fault_pieces text c.args.full_lens.now c.args.len c.in-Some.count)
    (c.put_line.ensures start _ (c.put_numbers-2.ensures start _ (c.put_numbers.ensures start _ (c.put.ensures start text is)))))
