use Rattle.line_rule.specs.Chain.{older_at}
use Rattle.std.proofs.Common.{◌≡◌, ℕ, ◌∷◌, sym, ap, ◌∙◌, arith}
use Rattle.line_rule.specs.declared.content.LineSlot.TheVariants.{Asked}
use Rattle.line_rule.proofs.Chains.{fronted}
use Rattle.line_rule.proofs.Leads.{fetches}
use Rattle.line_writers.proofs.line_writers.WriterList.fetch.Goals as goal

pub load-requires : goal.load-requires
load-requires g c =
    let w = c.older_word.ensures in let o = c.requires.next in let k : ℕ = c.args.member in let z = c.args.self.now.sized in let q = c.requires.seat in let by : o.3.by ≡ k = o.5 in (
      q.0,
      omega arith,
      fetches _ _ _ _ c.args.writer.now.seat.me c.args.writer.now.client c.older_word.result o.0 o.1 o.2 o.3 o.4.0 o.4.1 (c.older_word.ensures ∙ ap older_at (sym by)),
    )

pub exchange-requires : goal.exchange-requires
exchange-requires g c =
    let o = c.requires.next in let k : ℕ = c.args.member in let by : o.3.by ≡ k = o.5 in
    let t = c.load.ensures.2 c.args.writer.now.client o.0 o.1 o.2 o.3 o.4.0 o.4.1 (c.older_word.ensures ∙ ap older_at (sym by)) in
    (c.load.ensures.0 ∙ c.requires.seat.0, (Asked o.3.asked, fronted c.load.new.seat.me.1 k (Asked o.3.asked) _ (t.1 ∙ ap (λ (j : ℕ). (j, Asked o.3.asked) ∷ c.args.writer.now.seat.me.1) by)))
