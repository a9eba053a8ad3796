use Rattle.line_rule.specs.Chain.{state_at}
use Rattle.std.proofs.Common.{◌≡◌, ℕ, sym, ap, arith, ◌∙◌}
use Rattle.line_writers.proofs.Ways.{wakes_on}
use Rattle.line_writers.proofs.line_writers.WriterList.wake_on.Goals as goal

pub store-requires : goal.store-requires
store-requires g c =
    let w = c.state_word.ensures in let z = c.args.self.now.sized in let q = c.requires.seat in let key : c.args.self.now.table.shared.key.clients ≡ c.args.self.now.clients = z.2 in let x = c.requires.ready.0 in let o = c.requires.ready.2 in let k : ℕ = c.args.next in let by : x.by ≡ k = c.requires.ready.1 in (q.0, omega arith, wakes_on _ _ _ _ c.args.writer.now.seat.me c.args.writer.now.client c.state_word.result o.0 x o.1 o.2 o.3 o.4 o.5 o.6 o.7 o.8 o.9 (c.state_word.ensures ∙ ap state_at (sym by)) (omega arith, omega arith) o.10 o.11 o.12)

pub returns-clause-woken : goal.returns-clause-woken
returns-clause-woken g c x lead mine b gs p l t at group slot =
    c.store.ensures.2 c.args.writer.now.client lead x mine b gs p l t at group slot
