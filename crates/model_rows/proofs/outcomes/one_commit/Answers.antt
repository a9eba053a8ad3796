use Rattle.model_rows.proofs.Legal.{one_commit-legal}
use Rattle.model_rows.proofs.outcomes.one_commit.Goals as goal

pub returns : goal.returns
returns c = record { legal = one_commit-legal }
