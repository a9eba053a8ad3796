use Rattle.std.proofs.Common.{refl}
use Rattle.model_base.specs.Varint.{varint_within}
use Rattle.model_rows.proofs.bytes.batches_in_families.Goals as goal

pub returns-clause-one_of_each : goal.returns-clause-one_of_each
unfolding varint_within
returns-clause-one_of_each c = refl

pub returns-clause-three_records : goal.returns-clause-three_records
unfolding varint_within
returns-clause-three_records c = refl

pub returns-clause-long_number : goal.returns-clause-long_number
unfolding varint_within
returns-clause-long_number c = refl

pub returns-clause-default_named : goal.returns-clause-default_named
unfolding varint_within
returns-clause-default_named c = refl
