use Rattle.model_rows.proofs.GoingOn.{went_on-legal, not_over_nothing}
use Rattle.model_rows.proofs.outcomes.went_on.Goals as goal

pub returns : goal.returns
returns c = record { legal = went_on-legal; not_over_nothing = not_over_nothing 0 }
