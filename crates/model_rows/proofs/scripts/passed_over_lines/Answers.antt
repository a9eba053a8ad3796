use Rattle.std.proofs.Common.{refl}
use Rattle.std.specs.Fmt.{digits}
use Rattle.model_rows.proofs.scripts.passed_over_lines.Goals as goal

pub returns-clause-commented : goal.returns-clause-commented
unfolding digits
returns-clause-commented c = refl
