use Rattle.std.proofs.Common.{◌≤◌, ◌≡◌, ◌+◌, ℕ, List, [], ◌∷◌, ◌++◌, None, length, inr, refl, sym, ap, ◌∙◌, subst}
use Rattle.table_rule.specs.Histories.{Runs, last_of, versions_in}
use Rattle.table_nodes.specs.Parts.{group_of}
use Rattle.table_nodes.specs.declared.parts.MemberNodes.{MemberNodes}
use Rattle.engine_rule.specs.Parts.{HaveParts}
use Rattle.line_rule.specs.Chain.{all_answers}
use Rattle.line_rule.specs.Laws.{given_runs}
use Rattle.line_rule.specs.Plays.{debt}
use Rattle.line_writers.specs.Roles.{AreMembers}
use Rattle.line_writers.specs.Seats.{bound_of, about_of, clients_of, answers_told}
use Rattle.engine_rule.specs.Commits.{AreAnswered, last_after_all}
use Rattle.engine_stage_laws.specs.Served.{AreServed}
use Rattle.engine_parts.specs.Handled.{commits_in}
use Rattle.engine_parts.specs.Runs.{run_of}
use Rattle.engine_groups.proofs.LeftClients.{has_answered, left_client, roomy}
use Rattle.engine_groups.proofs.Onto.{has_turn, named_now, serves_again, served_last, served_now, turn_out}
use Rattle.engine_parts.proofs.Standing.{history_end, none_of}
use Rattle.engine_controller.specs.Passes.{seen_by_note}
use Rattle.engine_rule.specs.Consistent.{EndsAreNamed}
use Rattle.table_rule.specs.declared.content.MemberVersions.{MemberVersions}
use Rattle.engine_groups.proofs.engine.GroupEngine.hand_on.Goals as goal

-- takes the place of a table's `our_turn`, where only the log matters
abbrev our_log : Unit {0} → List (List MemberVersions) → Type 0
our_log t u = Unit {0}

abbrev as_is : List (List MemberVersions) → List (List MemberVersions)
as_is u = u

pub exit_pipelined-requires-clause-group : goal.exit_pipelined-requires-clause-group
exit_pipelined-requires-clause-group g c =
    let r = c.requires.leaves in let h = r.5 in let l = h.leaves.led in
    (l.writer, (bound_of c.args.self.now.list, r.3, l.group, l.left, r.4, l.gs, l.p, l.has, l.heads_are, l.pays_are, (h.leaves.covers, l.kept, l.last_is)))

pub await_pipelined_role-requires : goal.await_pipelined_role-requires
await_pipelined_role-requires g c =
    let r = c.requires.leaves in let e = c.args.self.now in let w = c.args.client.now in let n : ℕ = clients_of e.list in let about = about_of e.list in
    let own = r.3 in let seen = r.4 in let h = r.5 in let l = h.leaves.led in
    let all = all_answers own l.p l.gs in let d = debt l.gs own l.p in let from = given_runs run_of seen in let to = given_runs run_of (seen ++ all) in
    let sent = c.exit_pipelined.ensures.sent (bound_of e.list) own l.group l.left seen l.gs l.p l.has l.heads_are l.pays_are in
    (c.exit_pipelined.ensures.client.1, inr (c.requires.piped, (d, from, to, answers_told w.writer, sent.0)))

pub turn_in-turn-requires : goal.turn_in-turn-requires
turn_in-turn-requires g c =
    let r = c.requires.leaves in let e = c.args.self.now in let w = c.args.client.now in let n : ℕ = clients_of e.list in let about = about_of e.list in
    let own = r.3 in let seen = r.4 in let h = r.5 in let l = h.leaves.led in
    let all = all_answers own l.p l.gs in let d = debt l.gs own l.p in let from = given_runs run_of seen in let to = given_runs run_of (seen ++ all) in
    let sent = c.exit_pipelined.ensures.sent (bound_of e.list) own l.group l.left seen l.gs l.p l.has l.heads_are l.pays_are in
    let piped = l.seats.is_engine.pipelined ∙ c.requires.piped in
    let R = c.await_pipelined_role.ensures.right d from to (answers_told w.writer) sent.0 in
    let H = has_turn g.Versions.Table about n d from to (answers_told w.writer) c.await_pipelined_role.new.writer piped c.await_pipelined_role.result R in
    (H.turn, H.turn_is)

pub lead-turn-requires-clause-leads : goal.lead-turn-requires-clause-leads
lead-turn-requires-clause-leads g c =
    let r = c.requires.leaves in let e = c.args.self.now in let w = c.args.client.now in let n : ℕ = clients_of e.list in let about = about_of e.list in
    let own = r.3 in let seen = r.4 in let h = r.5 in let l = h.leaves.led in
    let all = all_answers own l.p l.gs in let d = debt l.gs own l.p in let from = given_runs run_of seen in let to = given_runs run_of (seen ++ all) in
    let sent = c.exit_pipelined.ensures.sent (bound_of e.list) own l.group l.left seen l.gs l.p l.has l.heads_are l.pays_are in
    let piped = l.seats.is_engine.pipelined ∙ c.requires.piped in
    let R = c.await_pipelined_role.ensures.right d from to (answers_told w.writer) sent.0 in
    let H = has_turn g.Versions.Table about n d from to (answers_told w.writer) c.await_pipelined_role.new.writer piped c.await_pipelined_role.result R in
    let members = subst (λ ks. AreMembers n ks l.gs) (sym c.as_slice.ensures.value) h.parts.beside in
    (c.await_pipelined_role.ensures.client.1, (d, from, to, answers_told w.writer, H.has_right, members))

pub lead-turn-requires-clause-ours : goal.lead-turn-requires-clause-ours
lead-turn-requires-clause-ours g c =
    let r = c.requires.leaves in let e = c.args.self.now in let w = c.args.client.now in let n : ℕ = clients_of e.list in let about = about_of e.list in
    let own = r.3 in let seen = r.4 in let h = r.5 in let l = h.leaves.led in
    let all = all_answers own l.p l.gs in let d = debt l.gs own l.p in let from = given_runs run_of seen in let to = given_runs run_of (seen ++ all) in
    let sent = c.exit_pipelined.ensures.sent (bound_of e.list) own l.group l.left seen l.gs l.p l.has l.heads_are l.pays_are in
    let piped = l.seats.is_engine.pipelined ∙ c.requires.piped in
    let R = c.await_pipelined_role.ensures.right d from to (answers_told w.writer) sent.0 in
    let H = has_turn g.Versions.Table about n d from to (answers_told w.writer) c.await_pipelined_role.new.writer piped c.await_pipelined_role.result R in
    let t = turn_out g.Versions.Table about n d from to (answers_told w.writer) c.await_pipelined_role.new.writer c.await_pipelined_role.result c.turn_in-turn.result c.turn_in-turn.ensures H in
    let home = g.Versions.Table.opening e.table in
    let start_is = l.seats.is_engine.start in
    let answered = subst (λ (k : ℕ). AreAnswered k None (commits_in seen)) start_is l.before.answered in
    let last_is : last_of home.start (g.Versions.Table.history c.turn_in-turn.result) ≡ last_after_all home.start (commits_in seen) = served_last home.start seen (g.Versions.Table.history c.turn_in-turn.result) l.before.handed_back answered t.1 in
    (l.seats.seat, subst (λ k. g.Versions.Table.our_turn k c.turn_in-turn.result) l.seats.is_engine.table t.0, l.seats.ready)

pub lead-turn-requires-clause-next : goal.lead-turn-requires-clause-next
lead-turn-requires-clause-next g c =
    let r = c.requires.leaves in let e = c.args.self.now in let w = c.args.client.now in let n : ℕ = clients_of e.list in let about = about_of e.list in
    let own = r.3 in let seen = r.4 in let h = r.5 in let l = h.leaves.led in
    let all = all_answers own l.p l.gs in let d = debt l.gs own l.p in let from = given_runs run_of seen in let to = given_runs run_of (seen ++ all) in
    let sent = c.exit_pipelined.ensures.sent (bound_of e.list) own l.group l.left seen l.gs l.p l.has l.heads_are l.pays_are in
    let piped = l.seats.is_engine.pipelined ∙ c.requires.piped in
    let R = c.await_pipelined_role.ensures.right d from to (answers_told w.writer) sent.0 in
    let H = has_turn g.Versions.Table about n d from to (answers_told w.writer) c.await_pipelined_role.new.writer piped c.await_pipelined_role.result R in
    let t = turn_out g.Versions.Table about n d from to (answers_told w.writer) c.await_pipelined_role.new.writer c.await_pipelined_role.result c.turn_in-turn.result c.turn_in-turn.ensures H in
    let home = g.Versions.Table.opening e.table in
    let start_is = l.seats.is_engine.start in
    let answered = subst (λ (k : ℕ). AreAnswered k None (commits_in seen)) start_is l.before.answered in
    let last_is : last_of home.start (g.Versions.Table.history c.turn_in-turn.result) ≡ last_after_all home.start (commits_in seen) = served_last home.start seen (g.Versions.Table.history c.turn_in-turn.result) l.before.handed_back answered t.1 in
    (subst (λ (m : ℕ). Runs m (versions_in (group_of w.layout.parts.parts))) (sym last_is) h.parts.may.runs, h.parts.may.some, h.parts.may.members)

pub lead-turn-requires-clause-parts : goal.lead-turn-requires-clause-parts
lead-turn-requires-clause-parts g c =
    let e = c.args.self.now in let w = c.args.client.now in let h = c.requires.leaves.5 in
    subst (λ ks. HaveParts (g.Versions.Table.account w.seat).number ks (group_of w.layout.parts.parts)) (sym c.as_slice.ensures.value) h.parts.may.each

pub lead-turn-requires-clause-end : goal.lead-turn-requires-clause-end
lead-turn-requires-clause-end g c =
    let r = c.requires.leaves in let e = c.args.self.now in let w = c.args.client.now in let n : ℕ = clients_of e.list in let about = about_of e.list in
    let own = r.3 in let seen = r.4 in let h = r.5 in let l = h.leaves.led in
    let all = all_answers own l.p l.gs in let d = debt l.gs own l.p in let from = given_runs run_of seen in let to = given_runs run_of (seen ++ all) in
    let sent = c.exit_pipelined.ensures.sent (bound_of e.list) own l.group l.left seen l.gs l.p l.has l.heads_are l.pays_are in
    let piped = l.seats.is_engine.pipelined ∙ c.requires.piped in
    let R = c.await_pipelined_role.ensures.right d from to (answers_told w.writer) sent.0 in
    let H = has_turn g.Versions.Table about n d from to (answers_told w.writer) c.await_pipelined_role.new.writer piped c.await_pipelined_role.result R in
    let t = turn_out g.Versions.Table about n d from to (answers_told w.writer) c.await_pipelined_role.new.writer c.await_pipelined_role.result c.turn_in-turn.result c.turn_in-turn.ensures H in
    let home = g.Versions.Table.opening e.table in
    let start_is = l.seats.is_engine.start in
    let answered = subst (λ (k : ℕ). AreAnswered k None (commits_in seen)) start_is l.before.answered in
    let last_is : last_of home.start (g.Versions.Table.history c.turn_in-turn.result) ≡ last_after_all home.start (commits_in seen) = served_last home.start seen (g.Versions.Table.history c.turn_in-turn.result) l.before.handed_back answered t.1 in
    (h.parts.may.ends ∙ ap (λ (m : ℕ). m + length (versions_in (group_of w.layout.parts.parts))) (sym last_is), c.ranges.end.fits)

pub exit_memtable-requires-clause-serves : goal.exit_memtable-requires-clause-serves
exit_memtable-requires-clause-serves g c =
    let r = c.requires.leaves in let e = c.args.self.now in let w = c.args.client.now in let n : ℕ = clients_of e.list in let about = about_of e.list in
    let own = r.3 in let seen = r.4 in let h = r.5 in let l = h.leaves.led in
    let all = all_answers own l.p l.gs in let d = debt l.gs own l.p in let from = given_runs run_of seen in let to = given_runs run_of (seen ++ all) in
    let sent = c.exit_pipelined.ensures.sent (bound_of e.list) own l.group l.left seen l.gs l.p l.has l.heads_are l.pays_are in
    let piped = l.seats.is_engine.pipelined ∙ c.requires.piped in
    let R = c.await_pipelined_role.ensures.right d from to (answers_told w.writer) sent.0 in
    let H = has_turn g.Versions.Table about n d from to (answers_told w.writer) c.await_pipelined_role.new.writer piped c.await_pipelined_role.result R in
    let t = turn_out g.Versions.Table about n d from to (answers_told w.writer) c.await_pipelined_role.new.writer c.await_pipelined_role.result c.turn_in-turn.result c.turn_in-turn.ensures H in
    let home = g.Versions.Table.opening e.table in
    let start_is = l.seats.is_engine.start in
    let answered = subst (λ (k : ℕ). AreAnswered k None (commits_in seen)) start_is l.before.answered in
    let last_is : last_of home.start (g.Versions.Table.history c.turn_in-turn.result) ≡ last_after_all home.start (commits_in seen) = served_last home.start seen (g.Versions.Table.history c.turn_in-turn.result) l.before.handed_back answered t.1 in
    let kept = subst (λ (k : ℕ). AreAnswered k None (commits_in (seen ++ all))) start_is l.kept.answered in
    let now = served_now home.start seen all (g.Versions.Table.history c.turn_in-turn.result) (group_of w.layout.parts.parts) l.before.handed_back answered l.kept.handed_back kept h.parts.made t.1 in
    let published = subst (AreServed (commits_in to)) (sym c.lead-turn.ensures.published) now in
    let covers = h.leaves.covers in let logged = covers.path.consistent in
    let ends = history_end our_log as_is tt about.opened.value about.start about.clients about.group_bytes (seen_by_note c.args.leadership.asked) c.args.leadership.held.value.path.log c.args.leadership.held.value.path.places covers.published c.args.leadership.held.value.path.last c.args.leadership.held.value.path.made (seen ++ all) covers.path ∙ logged.last_is in
    let named = named_now about.start seen all (g.Versions.Table.history c.turn_in-turn.result) covers.published (group_of w.layout.parts.parts) l.kept.handed_back l.kept.answered now ends logged.named t.2 in (
      c.lead-turn.ensures.client.1,
      (
        d,
        from,
        to,
        answers_told w.writer,
        c.lead-turn.ensures.leads d from to (answers_told w.writer) H.has_right,
        serves_again g.Versions.Table about.table.value about.start about.pipelined to c.lead-turn.result piped (subst (λ k. g.Versions.Table.our_turn k c.lead-turn.result) (sym l.seats.is_engine.table) c.lead-turn.ensures.ours.1) published
            (subst (EndsAreNamed about.start (commits_in to)) (sym c.lead-turn.ensures.published) named),
        sent.1,
      ),
    )

pub returns-clause-fits : goal.returns-clause-fits
returns-clause-fits g c =
    let r = c.requires.leaves in let e = c.args.self.now in let w = c.args.client.now in let n : ℕ = clients_of e.list in let about = about_of e.list in
    let own = r.3 in let seen = r.4 in let h = r.5 in let l = h.leaves.led in
    let all = all_answers own l.p l.gs in let d = debt l.gs own l.p in let from = given_runs run_of seen in let to = given_runs run_of (seen ++ all) in
    let sent = c.exit_pipelined.ensures.sent (bound_of e.list) own l.group l.left seen l.gs l.p l.has l.heads_are l.pays_are in
    let piped = l.seats.is_engine.pipelined ∙ c.requires.piped in
    let R = c.await_pipelined_role.ensures.right d from to (answers_told w.writer) sent.0 in
    let H = has_turn g.Versions.Table about n d from to (answers_told w.writer) c.await_pipelined_role.new.writer piped c.await_pipelined_role.result R in
    let x = c.exit_memtable.ensures in let lead = c.lead-turn.ensures in
    let gone = x.out.1 d from to (answers_told w.writer) (lead.leads d from to (answers_told w.writer) H.has_right) in
    let emptied : c.lead-turn.new.parts.parts ≡ [] = none_of (λ (part : MemberNodes). record { member = part.member; versions = part.nodes }) c.lead-turn.new.parts.parts lead.emptied.0 in
    left_client g.Versions.Table e r.0 r.1 r.2 own seen w c.args.leadership.held.value.path.last l _
    refl refl refl x.client.1 (x.client.0 ∙ (lead.client.0 ∙ (c.await_pipelined_role.ensures.client.0 ∙ c.exit_pipelined.ensures.client.0))) x.out.0 (gone.0 ∙ (λ i. l.told_is i ++ (own.asked, l.p) ∷ [])) lead.ours.0 lead.ours.2 lead.seen.0 refl (
      l.requests,
      (c.exit_pipelined.new.replies.list.ok.0 ∙ ap length c.exit_pipelined.ensures.replies.0, c.exit_pipelined.ensures.replies.0, subst (λ (k : ℕ). n ≤ k) (sym c.exit_pipelined.ensures.replies.1) l.replies_room),
      x.room,
    )
    (roomy n _ (record { no_numberings = l.layout.no_numberings; no_batches = l.layout.no_batches; clients_are = lead.emptied.1 ∙ l.layout.clients_are; numberings = l.layout.numberings; batches = l.layout.batches; members = l.layout.members }) emptied)

pub returns-clause-answered : goal.returns-clause-answered
returns-clause-answered g c number start mine own seen h =
    let e = c.args.self.now in let w = c.args.client.now in let n : ℕ = clients_of e.list in let about = about_of e.list in
    let l = h.leaves.led in
    let all = all_answers own l.p l.gs in let d = debt l.gs own l.p in let from = given_runs run_of seen in let to = given_runs run_of (seen ++ all) in
    let sent = c.exit_pipelined.ensures.sent (bound_of e.list) own l.group l.left seen l.gs l.p l.has l.heads_are l.pays_are in
    let piped = l.seats.is_engine.pipelined ∙ c.requires.piped in
    let R = c.await_pipelined_role.ensures.right d from to (answers_told w.writer) sent.0 in
    let H = has_turn g.Versions.Table about n d from to (answers_told w.writer) c.await_pipelined_role.new.writer piped c.await_pipelined_role.result R in
    let gone = c.exit_memtable.ensures.out.1 d from to (answers_told w.writer) (c.lead-turn.ensures.leads d from to (answers_told w.writer) H.has_right) in
    has_answered g.Versions.Table e number start mine own seen w c.args.leadership.held.value.path.last l c.exit_memtable.result _ (gone.0 ∙ (λ i. l.told_is i ++ (own.asked, l.p) ∷ [])) gone.1
