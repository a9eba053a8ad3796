use Rattle.model_runs.proofs.PairOfCommits as calls
use Rattle.model_runs.proofs.group_examples.failed_logs_stay_failed.Goals as goal

pub returns : goal.returns
returns c = record {
  first_lost = calls.first_lost;
  second_lost = calls.second_lost;
  lost_with_a_sync = calls.lost_with_a_sync;
  lost_later = calls.lost_later;
  lost_though_kept_out = calls.lost_though_kept_out;
  written_after_a_fault = calls.written_after_a_fault;
  kept_out_before_the_fault = calls.kept_out_before_the_fault;
}
