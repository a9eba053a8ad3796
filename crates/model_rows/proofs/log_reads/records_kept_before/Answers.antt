use Rattle.std.proofs.Common.{refl}
use Rattle.model_base.specs.Varint.{varint_within}
use Rattle.model_rows.proofs.LogReads.{passed_over}
use Rattle.model_rows.proofs.log_reads.records_kept_before.Goals as goal

pub returns-clause-before : goal.returns-clause-before
unfolding varint_within
returns-clause-before c = refl

pub returns-clause-note : goal.returns-clause-note
unfolding varint_within
returns-clause-note c = refl

pub returns-clause-none_counted : goal.returns-clause-none_counted
returns-clause-none_counted c = passed_over
