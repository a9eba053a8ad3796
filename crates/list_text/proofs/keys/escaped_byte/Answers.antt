use Rattle.list_text.proofs.Spelling.{two_digits_read}
use Rattle.list_text.proofs.keys.escaped_byte.Goals as goal

pub returns-in_ok-byte_of-in-120-clause-ok : goal.returns-in_ok-byte_of-in-120-clause-ok
returns-in_ok-byte_of-in-120-clause-ok c = two_digits_read c.args.text.now _ c.if-text-gt2.true c.in-120.is c.in_ok-byte_of-in-120.ensures.ok
