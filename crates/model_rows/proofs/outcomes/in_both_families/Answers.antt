use Rattle.model_rows.proofs.InFamilies.{in_both_families-legal}
use Rattle.model_rows.proofs.outcomes.in_both_families.Goals as goal

pub returns : goal.returns
returns c = record { legal = in_both_families-legal }
