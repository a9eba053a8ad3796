use Rattle.std.proofs.Common.{refl}
use Rattle.model_base.specs.Varint.{varint_within}
use Rattle.model_rows.proofs.bytes.group_of_two_batches.Goals as goal

pub returns : goal.returns
unfolding varint_within
returns c = record { one_batch = refl }
