use Rattle.std.proofs.Common.{◌≡◌, ℕ, ◌≤◌, ◌++◌, length, vec_len, refl, sym, ap, ◌∙◌, subst, arith}
use Rattle.line_rule.specs.Chain.{Within, all_answers}
use Rattle.line_rule.specs.Plays.{debt}
use Rattle.line_writers.specs.Roles.{firsts}
use Rattle.line_writers.specs.Seats.{start_of, clients_of, answers_told}
use Rattle.tests_line.specs.declared.counter.CountRequest.{CountRequest}
use Rattle.tests_line.specs.declared.counter.CountReply.{CountReply}
use Rattle.tests_line.proofs.Replies.{none_given}
use Rattle.tests_line_stages.proofs.tests.leading.sent.Goals as goal

pub exit_pipelined-requires-clause-group : goal.exit_pipelined-requires-clause-group
exit_pipelined-requires-clause-group g c =
    let f = c.requires.group in let t = f.1 in
    let p = c.replies_in_order.ensures t.1 t.2 c.answer_all.new.replies.list.items (c.answer_all.ensures.replies ∙ ap firsts t.6) in
    (f.0, (t.0, t.1, t.2, t.3, t.4, p.0, p.1, t.5, p.2, p.3, (refl, refl, sym (none_given {Q = CountRequest} {P = CountReply} (start_of c.args.list.now) (t.4 ++ all_answers t.1 p.1 p.0) c.requires.pipelined.0.0))))

pub returns-clause-sent : goal.returns-clause-sent
returns-clause-sent g c =
    let f = c.requires.group in let t = f.1 in let n : ℕ = clients_of c.args.list.now in
    let p = c.replies_in_order.ensures t.1 t.2 c.answer_all.new.replies.list.items (c.answer_all.ensures.replies ∙ ap firsts t.6) in
    let e = c.exit_pipelined.ensures.sent t.0 t.1 t.2 t.3 t.4 p.0 p.1 t.5 p.2 p.3 in
    let cleared = c.answer_all.ensures.cleared in let room = c.answer_all.ensures.room in let left = c.exit_pipelined.ensures.replies in
    let none : vec_len c.exit_pipelined.new.replies.list ≡ 0 = (let len = ap length left.0 in omega (arith, c.exit_pipelined.new.replies.list.ok.0)) in
    let members = c.note_members.ensures.members n t.1 p.1 p.0 p.3 (subst (Within n) (sym p.2) t.5.3) in (
      c.exit_pipelined.ensures.client.1,
      (debt p.0 t.1 p.1, _, _, answers_told c.args.client.now.writer, e.0, e.1, members),
      (cleared.1, cleared.0, subst (λ k. n ≤ k) (sym room.0) f.3),
      (none, left.0, subst (λ k. n ≤ k) (sym (left.1 ∙ room.1)) f.4.2),
      subst (λ k. n ≤ k) (sym c.note_members.ensures.room) c.requires.pipelined.1,
    )
