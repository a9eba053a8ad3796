use Rattle.log_salvage.proofs.Judging.{verdict_short, verdict_whole}
use Rattle.log_salvage.proofs.keeping.verdict_of.Goals as goal

pub returns-in-Some : goal.returns-in-Some
returns-in-Some c =
    let head = c.in-Some.ensures in
    verdict_whole c.args.range c.args.bytes.now c.in-Some.body.now c.in-Some.head c.fault_of.result c.verdict_by.result head.sequence head.count head.body head.some c.fault_of.ensures c.verdict_by.ensures

pub returns-in-None : goal.returns-in-None
returns-in-None c = verdict_short c.args.range c.args.bytes.now c.in-None.ensures.short
