use Rattle.std.proofs.Common.{◌≡◌, Option, [], IfSome, sym, subst}
use Rattle.line_rule.specs.declared.view.LineStage.TheVariants.{Helping}
use Rattle.line_rule.specs.Plays.{At}
use Rattle.line_rule.specs.Rule.{kept_picked}
use Rattle.line_writers.specs.declared.writer.Writer.{Writer}
use Rattle.line_writers.specs.Roles.{HasReply}
use Rattle.line_writers.proofs.line_writers.WriterList.await_reply.Goals as goal

pub returns-in-Some-poll_reply-clause-reply : goal.returns-in-Some-poll_reply-clause-reply
returns-in-Some-poll_reply-clause-reply g c q mine at slots =
    let kept = kept_picked g.Log.LogOfGroups.kept g.About.PickedAbout.about in let e = c.loop.invariant.2 in let m = c.poll_reply.new.writer.seat.me in
    let r = c.poll_reply.ensures.reply q mine
    (subst (λ (w : Writer g.row.Request.Denot g.row.Reply.Denot g.row.Log.Denot g.row.Right.Denot). At w.client (Helping q) mine w.seat.me) (sym e) at)
    (subst (λ (w : Writer g.row.Request.Denot g.row.Reply.Denot g.row.Log.Denot g.row.Right.Denot). w.seat.me.1 ≡ []) (sym e) slots) in
    subst (λ (w : Writer g.row.Request.Denot g.row.Reply.Denot g.row.Log.Denot g.row.Right.Denot). HasReply kept w.client q mine c.in-Some-poll_reply.reply m) e
    (subst (λ (x : Option g.row.Reply.Denot). IfSome x (λ p. HasReply kept c.loop.writer.client q mine p m)) c.in-Some-poll_reply.is r)
