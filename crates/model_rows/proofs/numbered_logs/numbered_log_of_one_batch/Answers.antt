use Rattle.std.proofs.Common.{refl}
use Rattle.model_base.specs.Varint.{varint_within}
use Rattle.model_rows.proofs.numbered_logs.numbered_log_of_one_batch.Goals as goal

pub returns-clause-bytes : goal.returns-clause-bytes
unfolding varint_within
returns-clause-bytes c = refl

pub returns-clause-len : goal.returns-clause-len
unfolding varint_within
returns-clause-len c = refl
