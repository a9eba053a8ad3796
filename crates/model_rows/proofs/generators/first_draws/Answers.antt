use Rattle.std.proofs.Common.{refl}
use Rattle.std.specs.Fmt.{digits}
use Rattle.model_rows.proofs.generators.first_draws.Goals as goal

pub returns : goal.returns
unfolding digits
returns c = record { client_1_of_seed_1 = refl }
