use Rattle.list_log.proofs.Records.{tells_whole}
use Rattle.list_log.proofs.lines.put_whole.Goals as goal

pub returns : goal.returns
returns c =
    tells_whole c.args.settings.now c.args.last c.args.place c.args.head c.args.body.now c.args.text.now c.put_between.new.text c.put_record_front.new.text c.put_operations.new.text c.put_record_back.new.text
    c.in_ok-told.told.any c.in_ok-told.told.fault c.in_ok-put_between.ensures c.in_ok-put_record_front.ensures c.in_ok-told.ensures c.in_ok-put_record_back.ensures
