use Rattle.model_accounts.proofs.calls.stops_are_steps.Goals as goal
use Rattle.model_accounts.proofs.Goings.{goes_stop, goes_stop_held, goes_unstop, goes_unstop_not_held}

pub returns : goal.returns
returns c = record { taken = goes_stop; held = goes_stop_held; given_back = goes_unstop; not_held = goes_unstop_not_held }
