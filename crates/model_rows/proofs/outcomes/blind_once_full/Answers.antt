use Rattle.model_rows.proofs.WhenFull.{not_blind_when_full}
use Rattle.model_rows.proofs.outcomes.blind_once_full.Goals as goal

pub returns : goal.returns
returns c = record { not_legal = not_blind_when_full }
