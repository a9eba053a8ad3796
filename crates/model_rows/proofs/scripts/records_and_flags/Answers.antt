use Rattle.std.proofs.Common.{refl}
use Rattle.std.specs.Fmt.{digits}
use Rattle.model_rows.proofs.scripts.records_and_flags.Goals as goal

pub returns-clause-records : goal.returns-clause-records
unfolding digits
returns-clause-records c = refl

pub returns-clause-flags : goal.returns-clause-flags
unfolding digits
returns-clause-flags c = refl
