use Rattle.std.proofs.Common.{◌≡◌, [], ◌∷◌, sym, ap, ◌∙◌, subst}
use Rattle.atomic_table.specs.Table.{rest, turned}
use Rattle.line_rule.specs.declared.content.LineSlot.TheVariants.{Empty, Asked, TheLog}
use Rattle.line_rule.specs.Rule.{logs_picked}
use Rattle.line_rule.proofs.Chains.{fronted}
use Rattle.line_writers.proofs.Tops.{log_in, log_at}
use Rattle.line_writers.proofs.line_writers.WriterList.claim.Goals as goal

pub exchange-requires : goal.exchange-requires
exchange-requires g c = let e = c.requires.elected.2 in (c.requires.seat, (TheLog e.2, fronted c.args.writer.now.seat.me.1 0 (TheLog e.2) _ e.7))

pub returns-clause-leads : goal.returns-clause-leads
returns-clause-leads g c q mine e =
    let x = c.exchange.ensures.3 in let t = c.turn.ensures.2 in let slots = ap (λ m. m.1) x ∙ ap (λ l. (0, Empty) ∷ rest l) e.7 in
    let mine_log : e.2 ≡ c.in-TheLog.log = ap (log_at {Request = g.row.Request.Denot} {Reply = g.row.Reply.Denot} {Right = g.row.Right.Denot} e.2) (sym e.7 ∙ c.exchange.ensures.2) ∙ ap (log_in {Request = g.row.Request.Denot} {Reply = g.row.Reply.Denot} {Right = g.row.Right.Denot} e.2) c.in-TheLog.is in
    (e.0, e.1, (ap (λ m. m.0) t ∙ ap (λ m. m.0) x ∙ e.3, e.4, ap (λ m. m.1) t ∙ ap (λ l. turned l) slots ∙ (λ i. (c.args.writer.now.client, Asked (sym e.5 i)) ∷ (0, Empty) ∷ [])), e.5, subst (λ l. logs_picked g.Reply.GivesRun.run_of g.Log.LogOfGroups g.About.PickedAbout.number g.About.PickedAbout.about l e.1) mine_log e.6, e.8)
