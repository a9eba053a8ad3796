use Rattle.model_runs.proofs.TwoLogs as logs
use Rattle.model_runs.proofs.several_logs.safe_before_the_next_log.Goals as goal

pub returns : goal.returns
returns c = record {
  torn_first = logs.torn_first;
  torn_second = logs.torn_second;
  old_first = logs.old_first;
  part_of_first = logs.part_of_first;
  begun_before_the_sync = logs.begun_before_the_sync;
  synced_group_lost = logs.synced_group_lost;
}
