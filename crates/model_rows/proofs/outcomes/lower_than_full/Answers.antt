use Rattle.model_rows.proofs.Full.{not_lower}
use Rattle.model_rows.proofs.outcomes.lower_than_full.Goals as goal

pub returns : goal.returns
returns c = record { not_legal = not_lower }
