use Rattle.model_accounts.proofs.calls.reads_of_the_log_are_steps.Goals as goal
use Rattle.model_accounts.proofs.Goings.{goes_updates, goes_read_failed, goes_updates_refused, lacks_updates}

pub returns : goal.returns
returns c = record { found = goes_updates; failed = goes_read_failed; refused = goes_updates_refused; out_of_memory = lacks_updates }
