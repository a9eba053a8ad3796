use Rattle.model_rows.proofs.OwnSlowdown.{not_ignored, not_kept}
use Rattle.model_rows.proofs.outcomes.own_slowdown_ignored.Goals as goal

pub returns : goal.returns
returns c = record { not_legal = not_ignored; not_kept = not_kept }
