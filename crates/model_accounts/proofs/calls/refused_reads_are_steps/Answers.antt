use Rattle.model_accounts.proofs.calls.refused_reads_are_steps.Goals as goal
use Rattle.model_accounts.proofs.Goings.{goes_get_refused, goes_many_refused, goes_scan_refused}

pub returns : goal.returns
returns c = record { get = goes_get_refused; many = goes_many_refused; scan = goes_scan_refused }
