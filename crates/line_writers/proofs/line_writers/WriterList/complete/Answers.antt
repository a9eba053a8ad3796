use Rattle.line_rule.specs.Chain.{state_at}
use Rattle.std.proofs.Common.{◌≡◌, ℕ, sym, ap, arith, ◌∙◌}
use Rattle.line_rule.proofs.Settles.{tells}
use Rattle.line_writers.proofs.line_writers.WriterList.complete.Goals as goal

pub store-requires : goal.store-requires
store-requires g c =
    let w = c.state_word.ensures in let o = c.requires.owed in let k : ℕ = c.args.member in let z = c.args.self.now.sized in let q = c.requires.seat in let by : o.1.0.by ≡ k = o.6 in let key : c.args.self.now.table.shared.key.clients ≡ c.args.self.now.clients = z.2 in (
      q.0,
      omega arith,
      tells _ _ _ _ c.args.writer.now.seat.me c.args.writer.now.client c.state_word.result o.1 o.2 o.3 o.4 o.0 _ o.5.0 o.5.1 (c.state_word.ensures ∙ ap state_at (sym by)) (omega arith, omega arith),
    )
