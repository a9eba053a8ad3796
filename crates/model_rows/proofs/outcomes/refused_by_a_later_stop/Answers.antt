use Rattle.model_rows.proofs.LaterStop.{not_later}
use Rattle.model_rows.proofs.outcomes.refused_by_a_later_stop.Goals as goal

pub returns : goal.returns
returns c = record { not_legal = not_later }
