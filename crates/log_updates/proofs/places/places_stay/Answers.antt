use Rattle.std.proofs.Common.{refl}
use Rattle.log_updates.proofs.Reached.{starts_there}
use Rattle.log_updates.proofs.Staying.{place_stays}
use Rattle.log_updates.proofs.places.places_stay.Goals as goal

pub returns-clause-stay : goal.returns-clause-stay
returns-clause-stay c = λ number files later place before on fixed stands. place_stays number files later place before on fixed stands

pub returns-clause-first : goal.returns-clause-first
returns-clause-first c = λ number files some. starts_there number files (record { log = 0; at = 0; last = 0 }) refl some
