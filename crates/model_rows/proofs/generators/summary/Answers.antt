use Rattle.std.proofs.Common.{refl}
use Rattle.std.specs.Fmt.{digits}
use Rattle.model_rows.proofs.generators.summary.Goals as goal

pub returns : goal.returns
unfolding digits
returns c = record { of_one_batch = refl }
