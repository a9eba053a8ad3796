use Rattle.std.proofs.Common.{◌≤◌, ℕ, [], ◌∷◌, ◌++◌, length, refl, sym, ap, ◌∙◌, subst}
use Rattle.line_writers.specs.Seats.{bound_of, clients_of}
use Rattle.engine_groups.proofs.LeftClients.{has_answered, left_client, roomy}
use Rattle.engine_groups.proofs.engine.GroupEngine.leave.Goals as goal

pub exit-requires-clause-group : goal.exit-requires-clause-group
exit-requires-clause-group g c =
    let r = c.requires.leaves in let l = r.5.led in
    (l.writer, (bound_of c.args.self.now.list, r.3, l.group, l.left, r.4, l.gs, l.p, l.has, l.heads_are, l.pays_are, ((r.5.covers, l.kept, l.last_is), r.6)))

pub returns-clause-fits : goal.returns-clause-fits
returns-clause-fits g c =
    let r = c.requires.leaves in let e = c.args.self.now in let w = c.args.client.now in let n : ℕ = clients_of e.list in
    let number = r.0 in let start = r.1 in let mine = r.2 in let own = r.3 in let seen = r.4 in let l = r.5.led in
    let x = c.exit.ensures in
    let out = x.out.2 (bound_of e.list) own l.group l.left seen l.gs l.p l.has l.heads_are l.pays_are in
    left_client g.Versions.Table e number start mine own seen w c.args.leadership.held.value.path.last l _
    refl refl refl x.out.0 x.client x.out.1 (out.0 ∙ (λ i. l.told_is i ++ (own.asked, l.p) ∷ [])) l.seats.seat l.seats.ready refl refl (
      l.requests,
      (c.exit.new.replies.list.ok.0 ∙ ap length x.room.1, x.room.1, subst (λ (k : ℕ). n ≤ k) (sym x.replies_room) l.replies_room),
      x.room.0,
    )
    (roomy n w.layout l.layout c.requires.parts)

pub returns-clause-answered : goal.returns-clause-answered
returns-clause-answered g c number start mine own seen s =
    let l = s.led in let e = c.args.self.now in let w = c.args.client.now in let x = c.exit.ensures in
    let out = x.out.2 (bound_of e.list) own l.group l.left seen l.gs l.p l.has l.heads_are l.pays_are in
    has_answered g.Versions.Table e number start mine own seen w c.args.leadership.held.value.path.last l c.exit.result _ (out.0 ∙ (λ i. l.told_is i ++ (own.asked, l.p) ∷ [])) out.1

pub returns-clause-reply : goal.returns-clause-reply
returns-clause-reply g c number start mine own seen s =
    let l = s.led in let x = c.exit.ensures in
    (x.out.2 (bound_of c.args.self.now.list) own l.group l.left seen l.gs l.p l.has l.heads_are l.pays_are).1
