use Rattle.model_accounts.proofs.runs.calls_one_after_another.Goals as goal
use Rattle.model_accounts.proofs.Passing.{went_none, went_more}

pub returns : goal.returns
returns c = record { no_call = went_none; one_more = went_more }
