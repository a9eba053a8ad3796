use Rattle.std.proofs.Common.{inl, refl, ◌∙◌}
use Rattle.tests_line.proofs.Seating.{done}
use Rattle.tests_line_stages.proofs.Seating.{leads, leads_still, linked}
use Rattle.tests_line_stages.proofs.tests.schedule.await_first.Goals as goal

pub await_pipelined_role-requires : goal.await_pipelined_role-requires
await_pipelined_role-requires g c = let a = c.requires.asked in (a.0, inl a.1)

pub returns-in-LogLeader : goal.returns-in-LogLeader
returns-in-LogLeader g c =
    let a = c.requires.asked in let q = a.1 in let r = c.in-LogLeader.ensures in let h = r.role q.0 q.1 in let s = c.has_groups-has_groups.ensures in
    (s.0.1 ∙ r.client.0, (leads_still c.args.list.now c.has_groups-has_groups.new.writer c.await_pipelined_role.new.writer s (leads c.args.list.now h.0 h.1 _ c.await_pipelined_role.new.writer r.client.1 h.2), a.3, a.4))

pub returns-in-Parallel : goal.returns-in-Parallel
returns-in-Parallel g c =
    let a = c.requires.asked in let q = a.1 in let r = c.in-Parallel.ensures in
    (r.client.0, (r.client.1, linked c.args.list.now _ _ c.await_pipelined_role.new.writer (r.role q.0 q.1), refl, a.3, a.4))

pub returns-in-Done : goal.returns-in-Done
returns-in-Done g c =
    let a = c.requires.asked in let q = a.1 in let r = c.in-Done.ensures in
    (r.client.0, ((r.client.1, done c.await_pipelined_role.new.writer _ (λ _ _. ⊥) q.0 _ _ (r.role q.0 q.1), refl), a.3, a.4))

pub unreachable-requires : goal.unreachable-requires
unreachable-requires g c = let q = c.requires.asked.1 in c.in-MemLeader.ensures.role q.0 q.1
