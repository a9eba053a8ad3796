use Rattle.std.proofs.Common.{◌≡◌, ℕ, sym, ap, ◌∙◌, subst, arith}
use mathlib.Core.Logic.{dite}
use mathlib.Core.Option.{none}
use native.Mathlib.Decide.{ℕ_discrete}
use Rattle.line_rule.specs.Rule.{logs_picked}
use Rattle.line_writers.specs.Roles.{IsLinked}
use Rattle.line_rule.proofs.Enters.{peeks, aims, enters_as}
use Rattle.line_writers.proofs.line_writers.WriterList.poll_link_from.Goals as goal

pub load-newest-requires : goal.load-newest-requires
load-newest-requires g c = let z = c.args.self.now.sized in (c.requires.seat.0, omega arith, peeks _ _ _ _ _)

pub store-requires : goal.store-requires
store-requires g c =
    let w = c.older_word.ensures in let z = c.args.self.now.sized in let q = c.requires.seat in let e = c.requires.entering in let k : ℕ = c.args.writer.now.client in (
      c.load-newest.ensures.0 ∙ c.requires.seat.0,
      omega arith,
      aims _ _ _ _ c.load-newest.new.seat.me k c.older_word.result e.2.0 _ e.1 c.older_word.ensures (ap (λ m. m.0) c.load-newest.ensures.2.0 ∙ e.2.1),
    )

pub compare_exchange-found-requires : goal.compare_exchange-found-requires
compare_exchange-found-requires g c =
    let z = c.args.self.now.sized in let q = c.requires.seat in let e = c.requires.entering in let k : ℕ = c.args.writer.now.client in
    let b = c.store.ensures.2 k e.2.0 e.1 (ap (λ m. m.0) c.load-newest.ensures.2.0 ∙ e.2.1) in (
      c.store.ensures.0 ∙ c.load-newest.ensures.0 ∙ c.requires.seat.0,
      omega arith,
      enters_as _ _ _ (λ i. logs_picked g.Reply.GivesRun.run_of g.Log.LogOfGroups (sym c.requires.start i) (sym c.requires.about i)) _ _ c.store.new.seat.me k _ c.load-newest.result c.args.code e.0 e.1 none c.pack.ensures b.0 (b.1 ∙ ap (λ m. m.1) c.load-newest.ensures.2.0 ∙ e.2.2) (e.3, e.4) c.if-newest-eq-STALL.false,
    )

pub returns-clause-linked : goal.returns-clause-linked
returns-clause-linked g c q mine ent is =
    let stood = logs_picked g.Reply.GivesRun.run_of g.Log.LogOfGroups g.About.PickedAbout.number g.About.PickedAbout.about in
    let k : ℕ = c.args.writer.now.client in let newest : ℕ = c.load-newest.result in
    let b = c.store.ensures.2 k ent.0 mine (ap (λ m. m.0) c.load-newest.ensures.2.0 ∙ ent.1) in
    let t = c.compare_exchange-found.ensures.2 k _ q mine b.0 (b.1 ∙ ap (λ m. m.1) c.load-newest.ensures.2.0 ∙ ent.2) in
    let m' = c.compare_exchange-found.new.seat.me in let hit : c.compare_exchange-found.result ≡ newest = c.if-found-newest.false in
    dite (ℕ_discrete newest 0)
    (λ z. subst (λ b. IsLinked stood k b q mine m') (sym (c.task_of-writer.ensures.first z)) (t.0 hit (hit ∙ z)))
    (λ nz. subst (λ b. IsLinked stood k b q mine m') (sym (c.task_of-writer.ensures.behind nz)) (let e = t.1 hit (λ f. nz (sym hit ∙ f)) in (e.0, e.1, e.3, e.2)))
