use Rattle.model_rows.proofs.OthersStop.{not_ignored}
use Rattle.model_rows.proofs.outcomes.others_stop_ignored.Goals as goal

pub returns : goal.returns
returns c = record { not_legal = not_ignored }
