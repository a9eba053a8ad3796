use Rattle.model_rows.proofs.AtStalls.{stopped, before, slowed}
use Rattle.model_rows.proofs.stalls.histories_of_stalls.Goals as goal

pub returns : goal.returns
returns c = record { stopped = stopped; before = before; slowed = slowed }
