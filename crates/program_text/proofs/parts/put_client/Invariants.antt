use Rattle.std.proofs.Common.{take, flat_map}
use Rattle.program_printing.specs.Printing.{Puts}
use Rattle.program_text.specs.ShownText.{reply_line}
use Rattle.program_text.proofs.parts.put_client.Given as goal

-- the lines of the replies so far are put
abbrev pub invariant-loop-reply : goal.invariant-loop-reply
invariant-loop-reply g l = Puts g.K.Sink l.initial.printer l.initial.sink l.printer l.sink (flat_map reply_line (take l.reply-index l.reply-items))
