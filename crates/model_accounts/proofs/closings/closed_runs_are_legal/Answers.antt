use Rattle.model_accounts.proofs.closings.closed_runs_are_legal.Goals as goal
use Rattle.model_accounts.proofs.Ending.{closing}

pub returns : goal.returns
returns c = record { legal = closing }
