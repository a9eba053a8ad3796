use Rattle.model_runs.proofs.TwoLogs as logs
use Rattle.model_runs.proofs.several_logs.filled_one_after_another.Goals as goal

pub returns : goal.returns
returns c = record {
  in_two = logs.in_two 0;
  third_not_begun = logs.in_two 1;
  in_the_last = logs.in_the_last;
  left_late = logs.left_late;
  left_early = logs.left_early;
}
