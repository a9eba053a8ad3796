use Rattle.std.proofs.Common.{refl}
use Rattle.model_base.specs.Varint.{varint_within}
use Rattle.model_rows.proofs.bytes.sizes_of_batches.Goals as goal

pub returns-clause-one_value : goal.returns-clause-one_value
unfolding varint_within
returns-clause-one_value c = refl

pub returns-clause-three_records : goal.returns-clause-three_records
unfolding varint_within
returns-clause-three_records c = refl
