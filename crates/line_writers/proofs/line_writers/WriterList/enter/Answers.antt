use Rattle.std.proofs.Common.{ℕ, ◌∷◌, ap, ◌∙◌, arith}
use Rattle.atomic_table.specs.Table.{rest}
use Rattle.line_rule.specs.declared.content.LineSlot.TheVariants.{Asked}
use Rattle.line_rule.proofs.Enters.{begins}
use Rattle.line_writers.specs.Seats.{answers_told}
use Rattle.line_writers.proofs.line_writers.WriterList.enter.Goals as goal

pub store-requires : goal.store-requires
store-requires g c =
    let w = c.state_word.ensures in let z = c.args.self.now.sized in let b = c.requires.out.0 in let o = c.requires.out.1 in (
      b.0,
      omega arith,
      begins _ _ _ _ c.args.writer.now.seat.me c.args.writer.now.client c.state_word.result (answers_told c.args.writer.now) c.state_word.ensures o.0 o.1,
    )

pub returns-clause-entering : goal.returns-clause-entering
returns-clause-entering g c =
    let b = c.requires.out.0 in let o = c.requires.out.1 in let k : ℕ = c.args.writer.now.client in
    let s = c.store.ensures.2 k (answers_told c.args.writer.now) o.0 in let x = c.exchange.ensures.3 in (
      (c.exchange.ensures.0 ∙ c.store.ensures.0 ∙ b.0, b.1, b.2),
      (s.0, ap (λ m. m.0) x ∙ s.1, ap (λ m. m.1) x ∙ ap (λ l. (k, Asked c.args.request) ∷ rest l) s.2),
    )
