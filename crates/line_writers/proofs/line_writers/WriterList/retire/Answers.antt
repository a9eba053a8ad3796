use Rattle.std.proofs.Common.{ℕ, ◌∷◌, sym, ap, ◌∙◌, arith}
use Rattle.atomic_table.specs.Table.{rest}
use Rattle.line_rule.specs.declared.content.LineSlot.TheVariants.{Empty, Told}
use Rattle.line_rule.proofs.Chains.{fronted}
use Rattle.line_rule.proofs.Leaves.{told_in, told_at}
use Rattle.line_rule.proofs.Settles.{retires}
use Rattle.line_writers.proofs.line_writers.WriterList.retire.Goals as goal

pub exchange-requires : goal.exchange-requires
exchange-requires g c = let o = c.requires.owed in (c.requires.seat.0, (Told o.2, fronted c.args.writer.now.seat.me.1 c.args.writer.now.client (Told o.2) _ o.3.1))

pub store-requires : goal.store-requires
store-requires g c =
    let w = c.state_word.ensures in let o = c.requires.owed in let k : ℕ = c.args.writer.now.client in let x = c.exchange.ensures.3 in let z = c.args.self.now.sized in let q = c.requires.seat in (
      c.exchange.ensures.0 ∙ c.requires.seat.0,
      omega arith,
      retires _ _ _ _ c.exchange.new.seat.me k c.state_word.result o.1 o.2 o.0 (ap (λ m. m.0) x ∙ o.3.0) (ap (λ m. m.1) x ∙ ap (λ l. (k, Empty) ∷ rest l) o.3.1) c.state_word.ensures,
    )

pub returns-clause-idle : goal.returns-clause-idle
returns-clause-idle g c mine own p owes =
    let k : ℕ = c.args.writer.now.client in let x = c.exchange.ensures.3 in let t = c.store.ensures.2 k own p mine (ap (λ m. m.0) x ∙ owes.0) in let reply = c.in-Told.reply in (
      t.0,
      t.1 ∙ ap (λ m. rest m.1) x ∙ ap rest owes.1,
      ap (told_in {Request = g.row.Request.Denot} {Log = g.row.Log.Denot} reply) (sym c.in-Told.is) ∙ ap (told_at {Request = g.row.Request.Denot} {Log = g.row.Log.Denot} reply) (sym c.exchange.ensures.2 ∙ owes.1),
    )
