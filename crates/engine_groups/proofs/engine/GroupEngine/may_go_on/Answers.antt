use Rattle.std.proofs.Common.{ℕ, [], ◌∙◌, subst}
use Rattle.line_writers.specs.Seats.{answers_told, bound_of, clients_of}
use Rattle.engine_controller.specs.Looks.{look_of}
use Rattle.engine_controller.specs.Passes.{client_of, seen_by}
use Rattle.engine_rule.specs.Plans.{LetsProceed}
use Rattle.engine_groups.specs.Law.{wanted_in}
use Rattle.engine_groups.proofs.Stalls.{group_told, held_by_delay, leads_again, proceeds_since, stalled_again, stalled_told}
use Rattle.engine_groups.proofs.engine.GroupEngine.may_go_on.Goals as goal

pub begin_stall-requires-clause-group : goal.begin_stall-requires-clause-group
begin_stall-requires-clause-group g c =
    let leads = c.requires.leads.0 in let o = leads.1 in
    (leads.0, (o.0, o.1, o.2, o.3, o.4, o.5, o.6 ∙ c.if-no_slowdown.false))

pub let_queued_go-requires-clause-pass : goal.let_queued_go-requires-clause-pass
let_queued_go-requires-clause-pass g c =
    let was = c.args.pass.now in
    (c.requires.pass.0, held_by_delay (client_of was) (look_of c.args.look) (seen_by was) c.requires.pass.1 (c.holds_writes_up.ensures.held_up c.if-not-holds_writes_up.false))

pub let_queued_go-requires-clause-stalls : goal.let_queued_go-requires-clause-stalls
let_queued_go-requires-clause-stalls g c =
    let o = c.requires.leads.0.1 in let list = c.args.self.now.list in let B = c.begin_stall in
    let s = B.ensures.stalled.1 o.0 o.1 o.2 o.3 o.4 in
    (B.ensures.stalled.0, (o.0, o.1, o.2, s.0, o.3, stalled_again (wanted_in list) (clients_of list) (bound_of list) o.0 o.1 o.2 o.3 (answers_told c.args.writer.now) s.0 B.new.room B.new.writer ([], s.1.0, s.1.1)))

pub end_stall-requires : goal.end_stall-requires
end_stall-requires g c =
    let o = c.requires.leads.0.1 in let list = c.args.self.now.list in let B = c.begin_stall in
    let s = B.ensures.stalled.1 o.0 o.1 o.2 o.3 o.4 in
    let after = c.let_queued_go.ensures.stalls o.0 o.1 o.2 s.0 o.3 (stalled_again (wanted_in list) (clients_of list) (bound_of list) o.0 o.1 o.2 o.3 (answers_told c.args.writer.now) s.0 B.new.room B.new.writer ([], s.1.0, s.1.1)) in
    record { stalled = (c.let_queued_go.ensures.writer.0, (o.0, o.1, o.2, after.0, o.3, after.1)) }

pub returns-clause-proceeds : goal.returns-clause-proceeds
returns-clause-proceeds g c goes =
    let was = c.args.pass.now in let Q = c.let_queued_go in let P = c.may_proceed-proceeds in
    proceeds_since (client_of was) (look_of c.args.look) (seen_by was) (seen_by Q.new.pass) (seen_by P.new.pass) c.args.no_slowdown Q.ensures.looks.begins
    (subst (λ k. LetsProceed k (look_of c.args.look) (seen_by Q.new.pass) (seen_by P.new.pass) c.args.no_slowdown) Q.ensures.pass.1 (P.ensures.proceeds goes))

pub returns-clause-leads : goal.returns-clause-leads
returns-clause-leads g c =
    let o = c.requires.leads.0.1 in let list = c.args.self.now.list in let n : ℕ = clients_of list in let max : ℕ = bound_of list in let mine = answers_told c.args.writer.now in
    let B = c.begin_stall in let Q = c.let_queued_go in let E = c.end_stall in
    let s0 = B.ensures.stalled.1 o.0 o.1 o.2 o.3 o.4 in
    let after0 = Q.ensures.stalls o.0 o.1 o.2 s0.0 o.3 (stalled_again (wanted_in list) n max o.0 o.1 o.2 o.3 mine s0.0 B.new.room B.new.writer ([], s0.1.0, s0.1.1)) in
    let told0 = stalled_told (wanted_in list) n max o.0 o.1 o.2 o.3 mine s0.0 B.new.room B.new.writer ([], s0.1.0, s0.1.1) in
    let told = group_told (wanted_in list) n max o.0 o.1 o.2 o.3 (answers_told Q.new.writer) E.new.writer (E.ensures.group.1 o.0 o.1 o.2 after0.0 o.3 after0.1) in (
      (
        (E.ensures.group.0, E.ensures.client ∙ (Q.ensures.writer.1 ∙ B.ensures.client), told ∙ (Q.ensures.writer.2 ∙ told0)),
        λ own group left seen has.
            let s = B.ensures.stalled.1 own group left seen has in
            let after = Q.ensures.stalls own group left s.0 seen (stalled_again (wanted_in list) n max own group left seen mine s.0 B.new.room B.new.writer ([], s.1.0, s.1.1)) in
            leads_again (wanted_in list) n max own group left seen (answers_told Q.new.writer) E.new.writer (E.ensures.group.1 own group left after.0 seen after.1),
      ),
      E.ensures.room,
    )
