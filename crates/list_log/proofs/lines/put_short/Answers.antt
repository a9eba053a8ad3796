use Rattle.std.proofs.Common.{sym, ◌∙◌}
use Rattle.list_log.proofs.Records.{if_ok, short_left_out, short_shown}
use Rattle.list_log.proofs.lines.put_short.Goals as goal

pub returns-then-is_some : goal.returns-then-is_some
returns-then-is_some c = short_left_out c.args.settings.now c.args.place c.args.text.now (sym c.is_some.ensures ∙ c.if-is_some.true)

pub returns : goal.returns
returns c =
    if_ok c.put_record_back.result _ _ c.put_record_back.ensures
    (short_shown c.args.settings.now c.args.place c.args.text.now c.put_record_front.new.text c.put_record_back.new.text (sym c.is_some.ensures ∙ c.if-is_some.false) c.in_ok-put_record_front.ensures)
