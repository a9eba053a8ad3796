use Rattle.model_rows.proofs.Waits.{waited_out-legal}
use Rattle.model_rows.proofs.outcomes.waited_out.Goals as goal

pub returns : goal.returns
returns c = record { legal = waited_out-legal }
