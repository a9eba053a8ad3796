use Rattle.model_rows.proofs.EarlyRead.{not_foreseen}
use Rattle.model_rows.proofs.outcomes.read_before_it_was_written.Goals as goal

pub returns : goal.returns
returns c = record { not_legal = not_foreseen }
