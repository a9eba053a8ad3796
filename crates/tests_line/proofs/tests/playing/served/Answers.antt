use Rattle.tests_line.proofs.Seating.{leads, done}
use Rattle.tests_line.proofs.tests.playing.served.Goals as goal

pub lead-requires-clause-leads : goal.lead-requires-clause-leads
lead-requires-clause-leads g c =
    let r = c.in-LogLeader.ensures.role in let q = c.requires.linked.1 in
    let h = r.1 q.0 q.1 in leads c.args.list.now h.0 h.1 _ c.await_role.new.writer r.0 h.2

pub returns-in-Done-clause-out : goal.returns-in-Done-clause-out
returns-in-Done-clause-out g c =
    let r = c.in-Done.ensures.role in let q = c.requires.linked.1 in
    (r.0, done c.await_role.new.writer _ (λ _ _. ⊥) q.0 _ _ (r.1 q.0 q.1), c.in-Done.ensures.client)
