use Rattle.list_log.proofs.Counted.{counts_head, counts_short}
use Rattle.list_log.proofs.Records.{if_ok}
use Rattle.list_log.proofs.totals.Totals.add_record.Goals as goal

pub returns-in-Some : goal.returns-in-Some
returns-in-Some c =
    let head = c.in-Some.ensures in
    if_ok c.add_batch.result _ _ c.add_batch.ensures
    (counts_head c.args.settings.now c.args.bytes.now c.in-Some.body.now c.args.self.now c.add_batch.new.self c.in-Some.head head.sequence head.count head.body head.some)

pub returns-in-None : goal.returns-in-None
returns-in-None c = counts_short c.args.settings.now c.args.bytes.now c.args.self.now c.add_short.new.self c.in-None.ensures.short c.add_short.ensures
