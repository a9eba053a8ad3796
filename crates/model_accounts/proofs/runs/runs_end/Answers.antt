use Rattle.model_accounts.proofs.runs.runs_end.Goals as goal
use Rattle.model_accounts.proofs.Passing.{has_run, has_run_short}

pub returns : goal.returns
returns c = record { whole = has_run; cut_off = has_run_short }
