use Rattle.model_accounts.proofs.sights.sights_of_traces.Goals as goal
use Rattle.model_accounts.proofs.Seeing.{seen_ends, seen_map}

pub returns : goal.returns
returns c = record { ends = seen_ends; map = seen_map }
