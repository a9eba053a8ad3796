use Rattle.engine_rule.proofs.LogSights.{shown_failed, shown_first, shown_with, shown_without, worked_are, worked_more, worked_no_more}
use Rattle.engine_rule.proofs.groups.sights_go_on.Goals as goal

pub returns : goal.returns
returns c = record {
  first = shown_first;
  written = shown_with;
  refused = shown_without;
  failed = shown_failed;
  one_more = worked_more;
  no_more = worked_no_more;
  same = λ settings s is. worked_are settings.group_bytes is.in_groups.groups s.commits s.fault s.last s.calls is.written;
}
