use Rattle.std.proofs.Common.{ℕ, ◌∷◌, sym, ap, ◌∙◌}
use Rattle.atomic_table.specs.Table.{rest}
use Rattle.line_rule.specs.declared.content.LineSlot.TheVariants.{Empty, Asked}
use Rattle.line_rule.proofs.Chains.{fronted}
use Rattle.line_writers.proofs.Tops.{asked_in, asked_at}
use Rattle.line_writers.proofs.line_writers.WriterList.own_request.Goals as goal

pub exchange-requires : goal.exchange-requires
exchange-requires g c = let o = c.requires.held in (c.requires.seat, (Asked o.0, fronted c.args.writer.now.seat.me.1 c.args.writer.now.client (Asked o.0) o.1 o.2))

pub returns-clause-taken : goal.returns-clause-taken
returns-clause-taken g c q t slot =
    let x = c.exchange.ensures.3 in let k : ℕ = c.args.writer.now.client in (
      ap (λ m. m.1) x ∙ ap (λ l. (k, Empty) ∷ rest l) slot,
      sym (ap (asked_at {Reply = g.row.Reply.Denot} {Log = g.row.Log.Denot} {Right = g.row.Right.Denot} q) (sym slot ∙ c.exchange.ensures.2) ∙ ap (asked_in {Reply = g.row.Reply.Denot} {Log = g.row.Log.Denot} {Right = g.row.Right.Denot} q) c.in-Asked.is),
    )
