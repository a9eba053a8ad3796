-- The law of the core, part by part.
use Rattle.model_core_laws.proofs.law.Goals as goal
use Rattle.model_core_laws.proofs.Opening as first
use Rattle.model_core_laws.proofs.Kept as each

pub returns : goal.returns
returns c = record { opening = first.opening; kept = each.kept; every_list = each.every_list }
