use Rattle.std.proofs.Common.{refl}
use Rattle.list_log.proofs.Records.{tells_head, tells_short}
use Rattle.list_log.proofs.lines.put_record.Goals as goal

pub returns-in_ok-put_batch-in-Some : goal.returns-in_ok-put_batch-in-Some
returns-in_ok-put_batch-in-Some c =
    let head = c.in-Some.ensures in
    tells_head c.args.settings.now c.args.last c.args.place c.args.bytes.now c.in-Some.body.now c.args.text.now c.put_batch.new.text c.in-Some.head c.last_after.result head.sequence head.count head.body head.some
    c.in_ok-put_batch-in-Some.ensures c.last_after.ensures

pub returns-in_ok-put_short-in-None : goal.returns-in_ok-put_short-in-None
returns-in_ok-put_short-in-None c =
    tells_short c.args.settings.now c.args.last c.args.place c.args.bytes.now c.args.text.now c.put_short.new.text c.args.last c.in-None.ensures.short c.in_ok-put_short-in-None.ensures refl
