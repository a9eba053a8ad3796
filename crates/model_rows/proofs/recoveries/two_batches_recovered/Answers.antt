use Rattle.std.proofs.Common.{refl}
use Rattle.std.specs.Fmt.{digits}
use Rattle.model_base.specs.Varint.{varint_within}
use Rattle.model_rows.proofs.WholeLogs.{both}
use Rattle.model_rows.proofs.recoveries.two_batches_recovered.Goals as goal

pub returns-clause-bytes : goal.returns-clause-bytes
unfolding varint_within
returns-clause-bytes c = refl

pub returns-clause-recovered : goal.returns-clause-recovered
returns-clause-recovered c = both

pub returns-clause-text : goal.returns-clause-text
unfolding varint_within digits
returns-clause-text c = refl
