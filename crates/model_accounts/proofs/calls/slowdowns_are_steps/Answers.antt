use Rattle.model_accounts.proofs.calls.slowdowns_are_steps.Goals as goal
use Rattle.model_accounts.proofs.Goings.{goes_slow, goes_slow_held, goes_unslow, goes_unslow_not_held}

pub returns : goal.returns
returns c = record { taken = goes_slow; held = goes_slow_held; given_back = goes_unslow; not_held = goes_unslow_not_held }
