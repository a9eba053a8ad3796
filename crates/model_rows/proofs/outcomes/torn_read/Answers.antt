use Rattle.model_rows.proofs.InFamilies.{not_torn}
use Rattle.model_rows.proofs.outcomes.torn_read.Goals as goal

pub returns : goal.returns
returns c = record { not_legal = not_torn }
