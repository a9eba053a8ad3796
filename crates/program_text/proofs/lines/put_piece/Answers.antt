-- Each byte is two digits.
use Rattle.program_text.proofs.Words.{encoded}
use Rattle.program_text.proofs.lines.put_piece.Goals as goal

pub returns : goal.returns
returns g c = let digits = encoded c.args.bytes.now (λ k. c.type_inv.bytes k) in rw (← digits, ← c.in-Ok.ensures.written) c.put.ensures
