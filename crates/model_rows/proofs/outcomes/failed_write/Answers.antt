use Rattle.model_rows.proofs.Legal.{failed_write-legal}
use Rattle.model_rows.proofs.outcomes.failed_write.Goals as goal

pub returns : goal.returns
returns c = record { legal = failed_write-legal }
