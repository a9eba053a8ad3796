use Rattle.model_rows.proofs.Stale.{not_below_what_was_read}
use Rattle.model_rows.proofs.outcomes.run_below_what_was_read.Goals as goal

pub returns : goal.returns
returns c = record { not_legal = not_below_what_was_read }
