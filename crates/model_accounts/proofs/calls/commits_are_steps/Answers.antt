use Rattle.model_accounts.proofs.calls.commits_are_steps.Goals as goal
use Rattle.model_accounts.proofs.Goings.{goes_add, goes_clear, goes_accepted, goes_refused, lacks_commit}

pub returns : goal.returns
returns c = record { added = goes_add; cleared = goes_clear; accepted = goes_accepted; refused = goes_refused; out_of_memory = lacks_commit }
