use Rattle.tests_line.proofs.Seating.{leads}
use Rattle.tests_line.proofs.tests.lead_beside.Goals as goal

pub grouped-requires-clause-leads : goal.grouped-requires-clause-leads
grouped-requires-clause-leads g c =
    let r = c.in-LogLeader.ensures.role in let q = c.requires.first.1 in
    let h = r.1 q.0 q.1 in leads c.args.list.now h.0 h.1 _ c.await_role.new.writer r.0 h.2
