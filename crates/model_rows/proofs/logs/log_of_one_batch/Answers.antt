use Rattle.std.proofs.Common.{refl}
use Rattle.model_base.specs.Varint.{varint_within}
use Rattle.model_rows.proofs.logs.log_of_one_batch.Goals as goal

pub returns-clause-len : goal.returns-clause-len
unfolding varint_within
returns-clause-len c = refl

pub returns-clause-length_and_type : goal.returns-clause-length_and_type
unfolding varint_within
returns-clause-length_and_type c = refl

pub returns-clause-batch : goal.returns-clause-batch
unfolding varint_within
returns-clause-batch c = refl

pub returns-clause-bytes : goal.returns-clause-bytes
unfolding varint_within
returns-clause-bytes c = refl
