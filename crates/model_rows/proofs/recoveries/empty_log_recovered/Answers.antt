use Rattle.std.proofs.Common.{refl}
use Rattle.std.specs.Fmt.{digits}
use Rattle.model_rows.proofs.WholeLogs.{none}
use Rattle.model_rows.proofs.recoveries.empty_log_recovered.Goals as goal

pub returns-clause-recovered : goal.returns-clause-recovered
returns-clause-recovered c = none

pub returns-clause-text : goal.returns-clause-text
unfolding digits
returns-clause-text c = refl
