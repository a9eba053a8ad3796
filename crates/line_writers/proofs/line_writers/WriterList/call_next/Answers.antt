use Rattle.line_rule.specs.Chain.{state_at}
use Rattle.std.proofs.Common.{◌≡◌, ℕ, ◌+◌, sym, ap, ◌∙◌, arith}
use Rattle.atomic_table.specs.Table.{rest}
use Rattle.line_rule.proofs.Serves.{calls_next}
use Rattle.line_writers.proofs.line_writers.WriterList.call_next.Goals as goal

pub store-requires : goal.store-requires
store-requires g c =
    let w = c.state_word.ensures in let z = c.args.self.now.sized in let q = c.requires.seat in let key : c.args.self.now.table.shared.key.clients ≡ c.args.self.now.clients = z.2 in let o = c.requires.passes in let k : ℕ = c.args.next in let by : o.3.by ≡ k = o.8 in (q.0, omega arith, calls_next _ _ _ _ c.args.writer.now.seat.me c.args.writer.now.client c.state_word.result (c.args.self.now.clients + 1) o.0 o.1 o.2 o.3 o.4 o.5 o.6 o.7 (omega arith) (c.state_word.ensures ∙ ap state_at (sym by)) o.9)

pub returns-clause-called : goal.returns-clause-called
returns-clause-called g c st mine g0 x y t at slot =
    let u = c.store.ensures.2 c.args.writer.now.client st mine g0 x at in (u.0, u.1 ∙ ap (λ l. rest l) slot)
