use Rattle.std.proofs.Common.{None}
use Rattle.engine_parts.proofs.Replies.{is_remembered}
use Rattle.engine_parts.proofs.numbering.reply.Goals as goal

pub returns : goal.returns
returns c = λ i. record { answer = c.args.answer; delay = is_remembered c.of.result c.args.delay.now c.of.ensures i; note = None; read = None }
