-- Each byte is two digits.
use Rattle.list_text.proofs.Pieces.{encoded}
use Rattle.list_text.proofs.digits.put_piece.Goals as goal

pub returns : goal.returns
returns c = let digits = encoded c.args.bytes.now (λ k. c.type_inv.bytes k) in rw (← digits, ← c.in-Ok.ensures.written) c.append.ensures.ok
