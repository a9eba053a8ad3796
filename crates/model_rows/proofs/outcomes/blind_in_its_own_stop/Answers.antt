use Rattle.model_rows.proofs.ThroughStop.{not_blind}
use Rattle.model_rows.proofs.outcomes.blind_in_its_own_stop.Goals as goal

pub returns : goal.returns
returns c = record { not_legal = not_blind }
