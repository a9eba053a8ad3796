use Rattle.model_rows.proofs.Stale.{not_legal}
use Rattle.model_rows.proofs.outcomes.stale_read.Goals as goal

pub returns : goal.returns
returns c = record { not_legal = not_legal }
