use Rattle.model_rows.proofs.Legal.{refused_commit-legal}
use Rattle.model_rows.proofs.outcomes.refused_commit.Goals as goal

pub returns-clause-legal : goal.returns-clause-legal
returns-clause-legal c = refused_commit-legal
