use Rattle.std.proofs.Common.{refl}
use Rattle.log_updates.proofs.Reached.{starts_there}
use Rattle.log_updates.proofs.places.LogPlace.start.Goals as goal

pub returns-clause-stands : goal.returns-clause-stands
returns-clause-stands c = λ number files some. starts_there number files (record { log = 0; at = 0; last = 0 }) refl some
