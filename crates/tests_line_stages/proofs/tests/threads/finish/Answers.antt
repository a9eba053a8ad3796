use Rattle.std.proofs.Common.{inl, ◌∙◌}
use Rattle.tests_line.proofs.Seating.{done}
use Rattle.tests_line_stages.proofs.Seating.{leads, linked}
use Rattle.tests_line_stages.proofs.tests.threads.finish.Goals as goal

pub await_pipelined_role-requires : goal.await_pipelined_role-requires
await_pipelined_role-requires g c = let a = c.loop.invariant.2 in (a.0, inl a.1)

pub returns-in-Done : goal.returns-in-Done
returns-in-Done g c =
    let a = c.loop.invariant.2 in let q = a.1 in let r = c.in-Done.ensures in
    ((r.client.1, done c.await_pipelined_role.new.writer _ (λ _ _. ⊥) q.0 _ _ (r.role q.0 q.1), r.client.0 ∙ a.2), a.3, a.4)

pub lead-answer-requires-clause-leads : goal.lead-answer-requires-clause-leads
lead-answer-requires-clause-leads g c =
    let q = c.loop.invariant.2.1 in let r = c.in-LogLeader.ensures in let h = r.role q.0 q.1 in
    leads c.args.list.now h.0 h.1 _ c.await_pipelined_role.new.writer r.client.1 h.2

pub loop-preserved : goal.loop-preserved
loop-preserved g c =
    let a = c.loop.invariant.2 in let q = a.1 in let r = c.in-Parallel.ensures in
    (tt, tt, (r.client.1, linked c.args.list.now _ _ c.await_pipelined_role.new.writer (r.role q.0 q.1), r.client.0 ∙ a.2, a.3, a.4))

pub unreachable-requires : goal.unreachable-requires
unreachable-requires g c = let q = c.loop.invariant.2.1 in c.in-MemLeader.ensures.role q.0 q.1
