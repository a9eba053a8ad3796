use Rattle.model_accounts.proofs.calls.reads_are_steps.Goals as goal
use Rattle.model_accounts.proofs.Goings.{goes_get, goes_many, goes_scan}

pub returns : goal.returns
returns c = record { get = goes_get; many = goes_many; scan = goes_scan }
