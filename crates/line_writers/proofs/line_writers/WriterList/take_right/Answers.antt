use Rattle.std.proofs.Common.{ℕ, ◌+◌, ◌∷◌, sym, ap, ◌∙◌}
use Rattle.atomic_table.specs.Table.{rest}
use Rattle.line_rule.specs.declared.content.LineSlot.TheVariants.{Empty, TheRight}
use Rattle.line_rule.proofs.Chains.{fronted}
use Rattle.line_writers.proofs.Tops.{right_of_slot, right_on}
use Rattle.line_writers.proofs.line_writers.WriterList.take_right.Goals as goal

pub exchange-requires : goal.exchange-requires
exchange-requires g c = let o = c.requires.held in (c.requires.seat, (TheRight o.0, fronted c.args.writer.now.seat.me.1 (c.args.self.now.clients + 1) (TheRight o.0) o.1 o.2))

pub returns-clause-taken : goal.returns-clause-taken
returns-clause-taken g c r t slot =
    let x = c.exchange.ensures.3 in let k : ℕ = c.args.self.now.clients + 1 in (
      ap (λ m. m.1) x ∙ ap (λ l. (k, Empty) ∷ rest l) slot,
      sym (ap (right_on {Request = g.row.Request.Denot} {Reply = g.row.Reply.Denot} {Log = g.row.Log.Denot} r) (sym slot ∙ c.exchange.ensures.2) ∙ ap (right_of_slot {Request = g.row.Request.Denot} {Reply = g.row.Reply.Denot} {Log = g.row.Log.Denot} r) c.in-TheRight.is),
    )
