use Rattle.model_runs.proofs.TwoLogs as logs
use Rattle.model_runs.proofs.several_logs.held_by_several_logs.Goals as goal

pub returns : goal.returns
returns c = record {
  both = logs.both;
  more_in_a_full_log = logs.more_in_a_full_log;
  sync_failed = logs.sync_failed;
  written_before_the_sync = logs.written_before_the_sync;
}
