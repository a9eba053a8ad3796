use Rattle.std.proofs.Common.{[], ◌∷◌, flat_map, codes, decimal, subst}
use Rattle.model_base.specs.Text.{line}
use Rattle.program_printing.specs.Printing.{Puts}
use Rattle.program_printing.proofs.Putting.{then_put}
use Rattle.program_text.specs.ShownText.{reply_line}
use Rattle.program_text.proofs.Loops.{early_of, failed_is}
use Rattle.program_text.proofs.parts.put_client.Goals as goal

-- once a write has failed, the lines that are left may be put
pub returns-then-has_failed : goal.returns-then-has_failed
returns-then-has_failed g c =
    let replies = c.args.replies.now.items in
    let rest : Puts g.K.Sink c.put_line.new.printer c.put_line.new.sink c.loop-reply.printer c.loop-reply.sink (flat_map reply_line c.deref-reply-items.result.now) =
    early_of g.K.Sink reply_line _ _ _ _ c.deref-reply-items.result.now c.loop-reply.reply-index (failed_is c.loop-reply.printer c.has_failed.result c.has_failed.ensures c.if-has_failed.true) c.loop-reply.invariant in
    then_put g.K.Sink _ _ _ _ _ _ (line (codes "client" ∷ decimal c.args.number ∷ [])) (flat_map reply_line replies) c.put_line.ensures
    (subst (λ xs. Puts g.K.Sink c.put_line.new.printer c.put_line.new.sink c.loop-reply.printer c.loop-reply.sink (flat_map reply_line xs)) c.deref-reply-items.ensures.value rest)
