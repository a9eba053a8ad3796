-- What stays as it is while more events come.
use Rattle.model_core_laws.proofs.nothing_is_taken_back.Goals as goal
use Rattle.model_core_laws.proofs.Later as more

pub returns : goal.returns
returns c = record { later = more.later }
