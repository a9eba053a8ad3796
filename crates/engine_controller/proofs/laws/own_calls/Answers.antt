use Rattle.engine_controller.proofs.Account.{ends_begins, ends_tokens, ends_last}
use Rattle.engine_controller.proofs.Places.{ends_delays}
use Rattle.engine_controller.proofs.laws.own_calls.Goals as goal

pub returns : goal.returns
returns g = record { begins = ends_begins; tokens = ends_tokens; delays = ends_delays; last = ends_last }
