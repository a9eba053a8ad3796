use Rattle.engine_controller.proofs.Account.{goes_begins, goes_tokens}
use Rattle.engine_controller.proofs.Places.{goes_delays}
use Rattle.engine_controller.proofs.laws.calls_of_others.Goals as goal

pub returns : goal.returns
returns g = record { begins = goes_begins; tokens = goes_tokens; delays = goes_delays }
