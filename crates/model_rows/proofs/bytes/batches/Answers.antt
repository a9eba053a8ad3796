use Rattle.std.proofs.Common.{refl}
use Rattle.model_base.specs.Varint.{varint_within}
use Rattle.model_rows.proofs.bytes.batches.Goals as goal

pub returns-clause-one_value : goal.returns-clause-one_value
unfolding varint_within
returns-clause-one_value c = refl

pub returns-clause-three_records : goal.returns-clause-three_records
unfolding varint_within
returns-clause-three_records c = refl

pub returns-clause-noted : goal.returns-clause-noted
unfolding varint_within
returns-clause-noted c = refl

pub returns-clause-single_deletion : goal.returns-clause-single_deletion
unfolding varint_within
returns-clause-single_deletion c = refl
