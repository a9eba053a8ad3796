use Rattle.model_rows.proofs.NoLook.{not_written}
use Rattle.model_rows.proofs.outcomes.written_while_stopped.Goals as goal

pub returns : goal.returns
returns c = record { not_legal = not_written }
