use Rattle.std.proofs.Common.{◌≡◌, ℕ, ◌+◌, ◌<◌, ◌≤◌, Bool, [], ◌∷◌, length, sym, ap, ◌∙◌, subst, arith}
use Rattle.line_rule.specs.declared.content.LineSlot.TheVariants.{Told, TheRight}
use Rattle.line_rule.specs.declared.view.LineStage.TheVariants.{Settling}
use Rattle.line_rule.specs.declared.view.Back.TheVariants.{Queued, Serving}
use Rattle.line_rule.specs.Chain.{Within}
use Rattle.line_rule.specs.Plays.{debt, squad_with_end, squad_at_cut, slots_of}
use Rattle.line_rule.specs.Rule.{hold_at}
use Rattle.line_rule.specs.Laws.{given_runs}
use Rattle.line_writers.specs.Seats.{answers_told}
use Rattle.line_writers.specs.Roles.{HasSent, lead_with_group, past_in}
use Rattle.line_writers.proofs.Sends.{slots_snoc, long_slots}
use Rattle.line_writers.proofs.Views.{seen_in_first, handled_in_first, handled_all, long_members}
use Rattle.line_writers.proofs.line_writers.WriterList.exit_pipelined.Goals as goal

pub exit_from-alone-requires-clause-group : goal.exit_from-alone-requires-clause-group
exit_from-alone-requires-clause-group g c =
    let o = c.requires.group.1 in
    (c.requires.group.0, (o.0, o.1, o.2, o.3, o.4, o.5, o.6, o.7, o.8, o.9, (o.10, (ap (λ v. given_runs g.Reply.GivesRun.run_of (seen_in_first v)) o.7.0.1, ap (given_runs g.Reply.GivesRun.run_of) (handled_all c.args.writer.now.client o.1 o.4 (past_in c.args.writer.now.seat.me.0) o.7.0.0 o.2 (answers_told c.args.writer.now) o.5 o.6 c.args.writer.now.seat.me.0 c.args.replies.now.list.items o.7.0.1 o.8 o.9)))))

pub rotate-requires : goal.rotate-requires
rotate-requires g c =
    let o = c.requires.group.1 in let k : ℕ = c.args.writer.now.client in let n : ℕ = c.args.self.now.clients in let mine = answers_told c.args.writer.now in
    let from = given_runs g.Reply.GivesRun.run_of (seen_in_first c.args.writer.now.seat.me.0) in let to = given_runs g.Reply.GivesRun.run_of (handled_in_first c.args.writer.now.seat.me.0 c.args.replies.now.list.items) in
    let e = c.exit_from-alone.ensures.sent o.0 o.1 o.2 o.3 o.4 o.5 o.6 o.7 o.8 o.9 in
    let s = subst (λ (y : Bool). HasSent (g.Log.LogOfGroups.serves c.args.self.now.table.shared.key.about) n k y (debt o.5 o.1 o.6) mine (squad_with_end (squad_at_cut (lead_with_group o.1 o.4 (past_in c.args.writer.now.seat.me.0) o.3 o.2) from) to) c.exit_from-alone.new.writer.seat.me) c.if-alone.true e.0 in
    let first = slots_of o.5 ((k, Told o.6) ∷ []) in let last = (n + 1, TheRight s.0) ∷ [] in
    let members : length c.exit_from-alone.new.room.members.items ≡ length o.5 + 1 = ap length e.1 ∙ long_members o.5 o.1 in
    record { first = (first, last, s.3 ∙ sym (slots_snoc o.5 ((k, Told o.6) ∷ []) last), long_slots o.5 ((k, Told o.6) ∷ []) ∙ (let l = c.len.ensures in omega (arith, members))) }

pub returns-then-alone-clause-client : goal.returns-then-alone-clause-client
returns-then-alone-clause-client g c =
    let b = c.requires.group.0 in let n : ℕ = c.args.self.now.clients in let x = c.exit_from-alone.ensures in
    let e2 : c.rotate.new.writer.client ≡ c.args.writer.now.client = c.rotate.ensures.seat.1 ∙ x.seat.1 in
    (e2, (c.rotate.ensures.seat.0 ∙ x.seat.0 ∙ b.0, subst (λ (j : ℕ). 0 < j) (sym e2) b.1, subst (λ (j : ℕ). j ≤ n) (sym e2) b.2))

pub returns-clause-client : goal.returns-clause-client
returns-clause-client g c =
    let b = c.requires.group.0 in let n : ℕ = c.args.self.now.clients in let x = c.exit_from-alone.ensures in
    let e1 : c.exit_from-alone.new.writer.client ≡ c.args.writer.now.client = x.seat.1 in
    (e1, (x.seat.0 ∙ b.0, subst (λ (j : ℕ). 0 < j) (sym e1) b.1, subst (λ (j : ℕ). j ≤ n) (sym e1) b.2))

pub returns-then-alone-clause-sent : goal.returns-then-alone-clause-sent
returns-then-alone-clause-sent g c max own group left seen gs p has heads_are replies =
    let b = c.requires.group.0 in let k : ℕ = c.args.writer.now.client in let n : ℕ = c.args.self.now.clients in let mine = answers_told c.args.writer.now in
    let from = given_runs g.Reply.GivesRun.run_of (seen_in_first c.args.writer.now.seat.me.0) in let to = given_runs g.Reply.GivesRun.run_of (handled_in_first c.args.writer.now.seat.me.0 c.args.replies.now.list.items) in
    let x = c.exit_from-alone.ensures in
    let e1 : c.exit_from-alone.new.writer.client ≡ k = x.seat.1 in
    let e2 : c.rotate.new.writer.client ≡ k = c.rotate.ensures.seat.1 ∙ e1 in
    let e = x.sent max own group left seen gs p has heads_are replies in
    let s = subst (λ (y : Bool). HasSent (g.Log.LogOfGroups.serves c.args.self.now.table.shared.key.about) n k y (debt gs own p) mine (squad_with_end (squad_at_cut (lead_with_group own seen (past_in c.args.writer.now.seat.me.0) left group) from) to) c.exit_from-alone.new.writer.seat.me) c.if-alone.true e.0 in
    let last = (n + 1, TheRight s.0) ∷ [] in
    let members : length c.exit_from-alone.new.room.members.items ≡ length gs + 1 = ap length e.1 ∙ long_members gs own in
    let from_is = ap (λ v. given_runs g.Reply.GivesRun.run_of (seen_in_first v)) has.0.1 in let to_is = ap (given_runs g.Reply.GivesRun.run_of) (handled_all k own seen (past_in c.args.writer.now.seat.me.0) has.0.0 group mine gs p c.args.writer.now.seat.me.0 c.args.replies.now.list.items has.0.1 heads_are replies) in
    let turned = c.rotate.ensures.turned (slots_of gs ((k, Told p) ∷ [])) last (s.3 ∙ sym (slots_snoc gs ((k, Told p) ∷ []) last)) (long_slots gs ((k, Told p) ∷ []) ∙ (let l = c.len.ensures in omega (arith, members))) in
    let at = c.rotate.ensures.seat.2 ∙ s.2 ∙ (λ i. hold_at (sym e2 i) (Settling (debt gs own p)) mine (Serving (record { own = own; rest = sym heads_are i; from = from_is i; to = to_is i }) []) ∷ []) in (
      (s.0, subst (g.Log.LogOfGroups.serves c.args.self.now.table.shared.key.about s.0) from_is s.1, at, turned ∙ (λ i. (n + 1, TheRight s.0) ∷ slots_of gs ((sym e2 i, Told p) ∷ []))),
      (x.room.0, x.room.1, x.room.2, e.1, subst (Within n) (sym heads_are) has.3, x.room.3),
    )

pub returns-clause-sent : goal.returns-clause-sent
returns-clause-sent g c max own group left seen gs p has heads_are replies =
    let b = c.requires.group.0 in let k : ℕ = c.args.writer.now.client in let n : ℕ = c.args.self.now.clients in let mine = answers_told c.args.writer.now in
    let from = given_runs g.Reply.GivesRun.run_of (seen_in_first c.args.writer.now.seat.me.0) in let to = given_runs g.Reply.GivesRun.run_of (handled_in_first c.args.writer.now.seat.me.0 c.args.replies.now.list.items) in
    let x = c.exit_from-alone.ensures in
    let e1 : c.exit_from-alone.new.writer.client ≡ k = x.seat.1 in
    let e = x.sent max own group left seen gs p has heads_are replies in
    let s = subst (λ (y : Bool). HasSent (g.Log.LogOfGroups.serves c.args.self.now.table.shared.key.about) n k y (debt gs own p) mine (squad_with_end (squad_at_cut (lead_with_group own seen (past_in c.args.writer.now.seat.me.0) left group) from) to) c.exit_from-alone.new.writer.seat.me) c.if-alone.false e.0 in
    let from_is = ap (λ v. given_runs g.Reply.GivesRun.run_of (seen_in_first v)) has.0.1 in let to_is = ap (given_runs g.Reply.GivesRun.run_of) (handled_all k own seen (past_in c.args.writer.now.seat.me.0) has.0.0 group mine gs p c.args.writer.now.seat.me.0 c.args.replies.now.list.items has.0.1 heads_are replies) in
    let at = s.0 ∙ (λ i. hold_at (sym e1 i) (Settling (debt gs own p)) mine (Queued (record { own = own; rest = sym heads_are i; from = from_is i; to = to_is i })) ∷ []) in (
      (at, s.1 ∙ (λ i. slots_of gs ((sym e1 i, Told p) ∷ []))),
      (x.room.0, x.room.1, x.room.2, e.1, subst (Within n) (sym heads_are) has.3, x.room.3),
    )
