use Rattle.model_rows.proofs.ThroughStop.{not_through, not_through_kept}
use Rattle.model_rows.proofs.outcomes.written_through_a_stop.Goals as goal

pub returns : goal.returns
returns c = record { not_legal = not_through; not_kept = not_through_kept }
