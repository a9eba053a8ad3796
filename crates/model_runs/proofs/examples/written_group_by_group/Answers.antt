use Rattle.model_runs.proofs.GroupByGroup as calls
use Rattle.model_runs.proofs.examples.written_group_by_group.Goals as goal

pub returns : goal.returns
returns c = record {
  accepted_after_a_failed_write = calls.accepted_after_a_failed_write;
  one_record_at_the_end = calls.one_record_at_the_end;
  a_record_for_each = calls.a_record_for_each;
}
