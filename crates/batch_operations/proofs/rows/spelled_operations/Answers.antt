use Rattle.std.proofs.Common.{refl}
use Rattle.model_base.specs.Varint.{varint_within}
use Rattle.batch_operations.proofs.rows.spelled_operations.Goals as goal

pub returns : goal.returns
unfolding varint_within
returns c = record { merge = refl; range = refl; far_family = refl; mark = refl; commit = refl; counted = refl }
