use Rattle.std.proofs.Common.{refl}
use Rattle.std.specs.Fmt.{digits}
use Rattle.model_base.specs.Varint.{varint_within}
use Rattle.model_rows.proofs.WholeLogs.{both_logs}
use Rattle.model_rows.proofs.recoveries.two_logs_recovered.Goals as goal

pub returns-clause-recovered : goal.returns-clause-recovered
returns-clause-recovered c = both_logs

pub returns-clause-text : goal.returns-clause-text
unfolding varint_within digits
returns-clause-text c = refl
