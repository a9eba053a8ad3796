use Rattle.line_writers.proofs.line_writers.WriterList.poll_right.Goals as goal

pub take_right-requires-clause-held : goal.take_right-requires-clause-held
take_right-requires-clause-held g c =
    let o = c.requires.queued in
    let t = (c.summon-state.ensures.role o.0 o.1 o.2 o.3).0 c.if-state-eq-STATE_LEADS_TABLE.true in (t.0, _, t.3)
