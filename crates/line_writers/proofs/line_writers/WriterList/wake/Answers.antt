use Rattle.line_rule.specs.Chain.{state_at, older_at}
use Rattle.std.proofs.Common.{◌≡◌, ℕ, [], ◌∷◌, sym, ap, ◌∙◌, arith}
use Rattle.line_rule.specs.Rule.{hold}
use Rattle.line_rule.specs.declared.view.LineStage.TheVariants.{Leading, Cutting}
use Rattle.line_rule.specs.declared.view.Back.TheVariants.{Away}
use Rattle.line_rule.proofs.Enters.{one_hold}
use Rattle.line_rule.proofs.Leads.{one_lead}
use Rattle.line_rule.proofs.Settles.{cuts, wakes}
use Rattle.line_writers.proofs.line_writers.WriterList.wake.Goals as goal

pub store-requires : goal.store-requires
store-requires g c =
    let w = c.older_word.ensures in let p = c.pack.ensures in let o = c.requires.ready in let k : ℕ = c.args.next in let z = c.args.self.now.sized in let q = c.requires.seat in let by : o.3.by ≡ k = o.8 in let code : o.3.code ≡ c.args.code = o.9 in (
      q.0,
      omega arith,
      cuts _ _ _ _ c.args.writer.now.seat.me c.args.writer.now.client c.older_word.result c.pack.result o.0 o.1 o.2 o.3 o.7.0 o.7.1 (c.older_word.ensures ∙ ap older_at (sym by)) (omega arith) o.10,
    )

pub store-requires-2 : goal.store-requires-2
store-requires-2 g c =
    let w = c.state_word.ensures in let o = c.requires.ready in let k : ℕ = c.args.next in let z = c.args.self.now.sized in let q = c.requires.seat in let by : o.3.by ≡ k = o.8 in let key : c.args.self.now.table.shared.key.clients ≡ c.args.self.now.clients = z.2 in
    let t = c.store.ensures.2 c.args.writer.now.client o.0 o.1 o.2 o.3 o.7.0 o.7.1 (c.older_word.ensures ∙ ap older_at (sym by)) in (
      c.store.ensures.0 ∙ q.0,
      omega arith,
      wakes _ _ _ _ c.store.new.seat.me c.args.writer.now.client c.state_word.result o.0 o.3 o.1 o.4 o.5 o.6 t.0 o.11.0 (t.1 ∙ o.12) (c.state_word.ensures ∙ ap state_at (sym by)) (omega arith, omega arith) o.11.2 o.11.3,
    )

pub returns-clause-left : goal.returns-clause-left
returns-clause-left g c lead mine gs p l at group slot =
    let o = c.requires.ready in let k : ℕ = c.args.writer.now.client in let by : o.3.by ≡ c.args.next = o.8 in
    let t = c.store.ensures.2 k o.0 o.1 o.2 o.3 o.7.0 o.7.1 (c.older_word.ensures ∙ ap older_at (sym by)) in
    let e = one_hold k k (Leading lead) (Leading o.0) mine o.1 c.args.writer.now.seat.me.0 at o.7.0 in
    let le : lead ≡ o.0 = one_lead lead o.0 e.1 in
    c.store-2.ensures.2 k lead o.3 mine Away gs p l [] (t.0 ∙ (λ i. hold k (Cutting (sym le i) o.3) (sym e.2 i) ∷ [])) group (t.1 ∙ slot)
