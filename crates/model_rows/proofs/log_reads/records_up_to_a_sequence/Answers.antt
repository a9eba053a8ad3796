use Rattle.std.proofs.Common.{refl}
use Rattle.model_base.specs.Varint.{varint_within}
use Rattle.model_rows.proofs.log_reads.records_up_to_a_sequence.Goals as goal

pub returns-clause-first : goal.returns-clause-first
unfolding varint_within
returns-clause-first c = refl

pub returns-clause-first_again : goal.returns-clause-first_again
unfolding varint_within
returns-clause-first_again c = refl
