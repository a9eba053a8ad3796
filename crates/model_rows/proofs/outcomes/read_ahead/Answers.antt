use Rattle.model_rows.proofs.Stale.{not_ahead}
use Rattle.model_rows.proofs.outcomes.read_ahead.Goals as goal

pub returns : goal.returns
returns c = record { not_legal = not_ahead }
