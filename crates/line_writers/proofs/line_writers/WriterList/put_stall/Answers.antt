use Rattle.std.proofs.Common.{ℕ, sym, ap, ◌∙◌, arith}
use mathlib.Core.Option.{none}
use Rattle.line_rule.proofs.Enters.{peeks}
use Rattle.line_rule.proofs.Stalls.{puts_stall}
use Rattle.line_writers.proofs.Halts.{aims_at}
use Rattle.line_writers.proofs.line_writers.WriterList.put_stall.Goals as goal

pub load-newest-requires : goal.load-newest-requires
load-newest-requires g c = let z = c.args.self.now.sized in (c.loop.invariant.3 ∙ c.requires.seat, omega arith, peeks _ _ _ _ _)

pub store-requires : goal.store-requires
store-requires g c =
    let w = c.older_word.ensures in let z = c.args.self.now.sized in let o = c.requires.leads in (
      c.load-newest.ensures.0 ∙ c.loop.invariant.3 ∙ c.requires.seat,
      omega arith,
      aims_at _ _ _ _ c.load-newest.new.seat.me c.args.writer.now.client c.older_word.result _ o.0 o.1 c.older_word.ensures (ap (λ m. m.0) c.load-newest.ensures.2.0 ∙ c.loop.invariant.4 ∙ o.2),
    )

pub compare_exchange-found-requires : goal.compare_exchange-found-requires
compare_exchange-found-requires g c =
    let z = c.args.self.now.sized in let o = c.requires.leads in let k : ℕ = c.args.writer.now.client in
    let aimed = c.store.ensures.2 k o.0 o.1 (ap (λ m. m.0) c.load-newest.ensures.2.0 ∙ c.loop.invariant.4 ∙ o.2) in (
      c.store.ensures.0 ∙ c.load-newest.ensures.0 ∙ c.loop.invariant.3 ∙ c.requires.seat,
      omega arith,
      puts_stall _ _ _ _ c.store.new.seat.me k _ o.0 o.1 none aimed.0 o.3 o.4,
    )

pub returns-then-found-newest-clause-seat : goal.returns-then-found-newest-clause-seat
returns-then-found-newest-clause-seat g c = (c.compare_exchange-found.ensures.0 ∙ c.store.ensures.0 ∙ c.load-newest.ensures.0 ∙ c.loop.invariant.3, c.loop.invariant.2)

pub returns-then-found-newest-clause-stopped : goal.returns-then-found-newest-clause-stopped
returns-then-found-newest-clause-stopped g c lead mine at =
    let k : ℕ = c.args.writer.now.client in
    let aimed = c.store.ensures.2 k lead mine (ap (λ m. m.0) c.load-newest.ensures.2.0 ∙ c.loop.invariant.4 ∙ at) in
    let t = (c.compare_exchange-found.ensures.2 k lead mine aimed.0).0 c.if-found-newest.true in
    (t.0, t.1, t.2 ∙ aimed.1 ∙ ap (λ m. m.1) c.load-newest.ensures.2.0 ∙ c.loop.invariant.5, t.3, t.4, t.5)

pub loop-preserved : goal.loop-preserved
loop-preserved g c =
    let o = c.requires.leads in let k : ℕ = c.args.writer.now.client in
    let aimed = c.store.ensures.2 k o.0 o.1 (ap (λ m. m.0) c.load-newest.ensures.2.0 ∙ c.loop.invariant.4 ∙ o.2) in
    let t = (c.compare_exchange-found.ensures.2 k o.0 o.1 aimed.0).1 c.if-found-newest.false in (
      tt,
      tt,
      c.loop.invariant.2,
      c.compare_exchange-found.ensures.0 ∙ c.store.ensures.0 ∙ c.load-newest.ensures.0 ∙ c.loop.invariant.3,
      t.0 ∙ sym o.2,
      t.1 ∙ aimed.1 ∙ ap (λ m. m.1) c.load-newest.ensures.2.0 ∙ c.loop.invariant.5,
    )
