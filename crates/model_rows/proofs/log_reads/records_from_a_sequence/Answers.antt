use Rattle.std.proofs.Common.{refl}
use Rattle.model_base.specs.Varint.{varint_within}
use Rattle.model_rows.proofs.log_reads.records_from_a_sequence.Goals as goal

pub returns-clause-all : goal.returns-clause-all
unfolding varint_within
returns-clause-all c = refl

pub returns-clause-from_the_first : goal.returns-clause-from_the_first
unfolding varint_within
returns-clause-from_the_first c = refl

pub returns-clause-from_one_not_logged : goal.returns-clause-from_one_not_logged
unfolding varint_within
returns-clause-from_one_not_logged c = refl

pub returns-clause-from_the_last : goal.returns-clause-from_the_last
unfolding varint_within
returns-clause-from_the_last c = refl
