-- The replies after every list of events.
use Rattle.model_core_laws.proofs.replies_of_a_map.Goals as goal
use Rattle.model_core_laws.proofs.Answered.{replies}

pub returns : goal.returns
returns c = record { every_list = replies }
