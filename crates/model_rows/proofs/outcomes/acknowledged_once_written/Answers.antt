use Rattle.model_rows.proofs.Unwritten.{not_unwritten, not_at_once}
use Rattle.model_rows.proofs.outcomes.acknowledged_once_written.Goals as goal

pub returns : goal.returns
returns c = record { not_unwritten = not_unwritten; not_at_once = not_at_once }
