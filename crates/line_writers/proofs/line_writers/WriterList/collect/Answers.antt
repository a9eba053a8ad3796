use Rattle.std.proofs.Common.{ℕ, ◌∷◌, ap, ◌∙◌, arith}
use Rattle.atomic_table.specs.Table.{rest}
use Rattle.line_rule.specs.declared.content.LineSlot.TheVariants.{Empty, Told}
use Rattle.line_rule.proofs.Chains.{fronted}
use Rattle.line_rule.proofs.Enters.{rests}
use Rattle.line_writers.proofs.line_writers.WriterList.collect.Goals as goal

pub exchange-requires : goal.exchange-requires
exchange-requires g c = let e = c.requires.told in (c.requires.seat.0, (Told e.0, fronted c.args.writer.now.seat.me.1 c.args.writer.now.client (Told e.0) _ e.3))

pub load-requires : goal.load-requires
load-requires g c =
    let w = c.state_word.ensures in let e = c.requires.told in let k : ℕ = c.args.writer.now.client in let x = c.exchange.ensures.3 in let z = c.args.self.now.sized in let q = c.requires.seat in (
      c.exchange.ensures.0 ∙ c.requires.seat.0,
      omega arith,
      rests _ _ _ _ c.exchange.new.seat.me k c.state_word.result e.1 (ap (λ m. m.0) x ∙ e.2) (ap (λ m. m.1) x ∙ ap (λ l. (k, Empty) ∷ rest l) e.3),
    )
