use Rattle.model_rows.proofs.AtStalls.{not_without_a_stall, not_its_own}
use Rattle.model_rows.proofs.stalls.refused_without_a_stall.Goals as goal

pub returns : goal.returns
returns c = record { not_legal = not_without_a_stall; not_its_own = not_its_own }
