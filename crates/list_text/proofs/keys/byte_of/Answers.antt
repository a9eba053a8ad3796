use Rattle.std.proofs.Common.{Ok, Err, refl}
use Rattle.list_text.proofs.Spelling.{byte_read, byte_not_read}
use Rattle.list_text.proofs.keys.byte_of.Goals as goal

pub returns-in-Ok-clause-ok : goal.returns-in-Ok-clause-ok
returns-in-Ok-clause-ok c = byte_read c.args.high c.args.low (Ok c.in-Ok.field-0) c.decode_to_slice.new.out c.in-Ok.ensures.value refl

pub returns-in-Err-clause-err : goal.returns-in-Err-clause-err
returns-in-Err-clause-err c = (refl, byte_not_read c.args.high c.args.low (Err c.in-Err.field-0) c.decode_to_slice.new.out c.in-Err.field-0 c.in-Err.ensures.value refl)
