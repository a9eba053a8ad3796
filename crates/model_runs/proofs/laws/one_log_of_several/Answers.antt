use Rattle.model_runs.proofs.OneLog.{one_run, one_safe}
use Rattle.model_runs.proofs.laws.one_log_of_several.Goals as goal

pub returns : goal.returns
returns c = record {
  safe = λ settings ended limit reach script calls o held a last b run safe.
      (one_run settings ended script limit calls o run, one_safe settings ended script limit calls o run held reach a last b safe);
}
