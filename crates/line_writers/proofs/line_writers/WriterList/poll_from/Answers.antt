use Rattle.std.proofs.Common.{ℕ, [], ◌∷◌, ◌++◌, inl, inr, ⊎_elim, refl, sym, ◌∙◌, subst, arith}
use Rattle.line_writers.proofs.Same.{same_seat, same_writer}
use Rattle.line_writers.proofs.Tops.{told_one}
use Rattle.line_writers.specs.Roles.{HasReply, HasLeft}
use Rattle.line_rule.specs.Rule.{logs_picked, kept_picked, drops_picked}
use Rattle.line_rule.specs.Plays.{Replied, Dismissed}
use Rattle.line_rule.proofs.Looks.{looks_as}
use Rattle.line_writers.proofs.line_writers.WriterList.poll_from.Goals as goal

pub load-state-requires : goal.load-state-requires
load-state-requires g c =
    let w = c.state_word.ensures in let r = c.requires.waits in let k : ℕ = c.args.writer.now.client in let z = c.args.self.now.sized in let q = c.requires.seat in (
      c.requires.seat.0,
      omega arith,
      looks_as _ _ _ _ _ (λ i. logs_picked g.Reply.GivesRun.run_of g.Log.LogOfGroups (sym c.requires.start i) (sym c.requires.about i)) (λ i. kept_picked g.Log.LogOfGroups.kept (sym c.requires.about i)) (λ i. drops_picked g.Log.LogOfGroups.drops (sym c.requires.about i)) _ _ c.args.writer.now.seat.me k c.state_word.result r.0 r.1 r.2 c.state_word.ensures r.3 r.4,
    )

pub claim-requires-clause-elected : goal.claim-requires-clause-elected
claim-requires-clause-elected g c =
    let r = c.requires.waits in let k : ℕ = c.args.writer.now.client in
    (r.0, r.2, (c.load-state.ensures.2 k r.0 r.1 r.2 r.3).0 c.if-state-eq-STATE_LEADS_LOG.true)

pub returns-then-state-eq-STATE_LEADS_LOG-clause-role : goal.returns-then-state-eq-STATE_LEADS_LOG-clause-role
returns-then-state-eq-STATE_LEADS_LOG-clause-role g c q past mine at slots =
    c.claim.ensures.leads q mine ((c.load-state.ensures.2 c.args.writer.now.client q past mine at).0 c.if-state-eq-STATE_LEADS_LOG.true)

pub collect-requires-clause-told : goal.collect-requires-clause-told
collect-requires-clause-told g c =
    let r = c.requires.waits in let k : ℕ = c.args.writer.now.client in
    ⊎_elim
    (λ (a : Replied (kept_picked g.Log.LogOfGroups.kept g.About.PickedAbout.about) k r.0 r.2 c.load-state.new.seat.me). (a.0, r.2 ++ (r.0, a.0) ∷ [], a.1, a.2))
    (λ (b : Dismissed (drops_picked g.Log.LogOfGroups.drops g.About.PickedAbout.about) k r.0 r.2 c.load-state.new.seat.me). (b.0, r.2, b.1, b.2))
    ((c.load-state.ensures.2 k r.0 r.1 r.2 r.3).1 c.if-state-eq-STATE_DONE.true)

pub returns-then-state-eq-STATE_DONE-clause-role : goal.returns-then-state-eq-STATE_DONE-clause-role
returns-then-state-eq-STATE_DONE-clause-role g c q past mine at slots =
    let k : ℕ = c.args.writer.now.client in let m' = c.collect.new.writer.seat.me in
    ⊎_elim
    (λ (a : Replied (kept_picked g.Log.LogOfGroups.kept g.About.PickedAbout.about) k q mine c.load-state.new.seat.me).
    let same_p = told_one {Request = g.row.Request.Denot} {Log = g.row.Log.Denot} {Right = g.row.Right.Denot} k k a.0 c.collect.result (sym a.2 ∙ c.collect.ensures.reply) in
    let i = c.collect.ensures.idle (mine ++ (q, a.0) ∷ []) a.1 in
    inl (subst (λ p. HasReply (kept_picked g.Log.LogOfGroups.kept g.About.PickedAbout.about) k q mine p m') same_p (i.0, i.1, a.3)))
    (λ (b : Dismissed (drops_picked g.Log.LogOfGroups.drops g.About.PickedAbout.about) k q mine c.load-state.new.seat.me).
    let same_p = told_one {Request = g.row.Request.Denot} {Log = g.row.Log.Denot} {Right = g.row.Right.Denot} k k b.0 c.collect.result (sym b.2 ∙ c.collect.ensures.reply) in
    let i = c.collect.ensures.idle mine b.1 in
    inr (subst (λ p. HasLeft (drops_picked g.Log.LogOfGroups.drops g.About.PickedAbout.about) k q mine p m') same_p (i.0, i.1, b.3)))
    ((c.load-state.ensures.2 k q past mine at).1 c.if-state-eq-STATE_DONE.true)

pub returns-clause-none : goal.returns-clause-none
returns-clause-none g c is =
    let r = c.requires.waits in let e = c.load-state.ensures in
    same_writer _ c.args.writer.now refl refl
    (same_seat c.load-state.new.seat c.args.writer.now.seat e.0 e.1 ((e.2 c.args.writer.now.client r.0 r.1 r.2 r.3).3 c.if-state-eq-STATE_LEADS_LOG.false c.if-state-eq-STATE_DONE.false c.if-state-eq-STATE_PARALLEL.false))
