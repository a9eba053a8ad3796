use Rattle.std.proofs.Common.{◌≡◌, ℕ, ◌++◌, ◌∷◌, sym, ap, ◌∙◌, arith}
use Rattle.atomic_table.specs.Table.{rest}
use Rattle.line_rule.specs.declared.content.LineSlot.TheVariants.{Empty, Asked}
use Rattle.line_rule.specs.Chain.{older_at, newest}
use Rattle.line_rule.specs.Plays.{in_hand}
use Rattle.line_rule.specs.Rule.{asks_picked}
use Rattle.line_rule.proofs.Chains.{fronted}
use Rattle.line_rule.proofs.Drops.{holds_as}
use Rattle.line_writers.proofs.Tops.{asked_in}
use Rattle.line_writers.proofs.Fills.{same_front}
use Rattle.line_writers.proofs.line_writers.WriterList.hold.Goals as goal

pub load-word-requires : goal.load-word-requires
load-word-requires g c =
    let w = c.older_word.ensures in let o = c.requires.next in let q = c.requires.seat in let z = c.args.self.now.sized in let k : ℕ = c.args.client in let by : o.5.by ≡ k = o.8 in (
      q.0,
      omega arith,
      holds_as _ _ _ (λ i. asks_picked g.Request.HasGroupingItem.item_of g.Log.LogOfGroups.lawful (sym c.requires.about i)) _ _ c.args.writer.now.seat.me c.args.writer.now.client c.older_word.result o.0 o.1 o.2 o.3 o.4 o.5 o.6 o.7 (c.older_word.ensures ∙ ap older_at (sym by)),
    )

pub exchange-requires : goal.exchange-requires
exchange-requires g c =
    let o = c.requires.next in let k : ℕ = c.args.client in let by : o.5.by ≡ k = o.8 in
    let t = c.load-word.ensures.2 c.args.writer.now.client o.0 o.1 o.2 o.3 o.4 o.5 o.6 o.7 (c.older_word.ensures ∙ ap older_at (sym by)) in
    (c.load-word.ensures.0 ∙ c.requires.seat.0, (Asked o.5.asked, fronted c.load-word.new.seat.me.1 k (Asked o.5.asked) _ (t.1 ∙ ap (λ (j : ℕ). (j, Asked o.5.asked) ∷ c.args.writer.now.seat.me.1) by)))

pub unreachable-requires : goal.unreachable-requires
unreachable-requires g c =
    let o = c.requires.next in let k : ℕ = c.args.client in let by : o.5.by ≡ k = o.8 in let m = c.args.writer.now.seat.me in
    let t = c.load-word.ensures.2 c.args.writer.now.client o.0 o.1 o.2 o.3 o.4 o.5 o.6 o.7 (c.older_word.ensures ∙ ap older_at (sym by)) in
    c.in_default.not-Asked o.5.asked (same_front k c.exchange.result (Asked o.5.asked) (rest c.load-word.new.seat.me.1) m.1 (sym c.exchange.ensures.2 ∙ t.1 ∙ ap (λ (j : ℕ). (j, Asked o.5.asked) ∷ m.1) by))

pub returns-clause-held : goal.returns-clause-held
returns-clause-held g c w lead mine newer older x at walk by small =
    let k : ℕ = c.args.client in let m = c.args.writer.now.seat.me in
    let t = c.load-word.ensures.2 c.args.writer.now.client w lead mine newer older x at walk (c.older_word.ensures ∙ ap older_at (sym by)) in
    let e = c.exchange.ensures.3 in let whole = c.of-link.ensures.whole in let byte = c.of-link.ensures.byte in let word = t.2 in
    let one : c.of-link.result.client ≡ newest (older ++ in_hand lead) = omega arith in
    let got = same_front k c.exchange.result (Asked x.asked) (rest c.load-word.new.seat.me.1) m.1 (sym c.exchange.ensures.2 ∙ t.1 ∙ ap (λ (j : ℕ). (j, Asked x.asked) ∷ m.1) by) in
    let two : c.of-link.result.code ≡ x.code = omega arith in
    (ap (λ y. y.0) e ∙ t.0, ap (λ y. y.1) e ∙ ap (λ l. (k, Empty) ∷ rest l) t.1 ∙ ap (λ (j : ℕ). (j, Empty) ∷ m.1) (sym by), one, two, ap (asked_in x.asked) (sym c.in-Asked.is ∙ got), t.3)
