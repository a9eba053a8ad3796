use Rattle.std.proofs.Common.{refl}
use Rattle.model_base.specs.Varint.{varint_within}
use Rattle.model_rows.proofs.log_reads.records_of_commits.Goals as goal

pub returns-clause-bytes : goal.returns-clause-bytes
unfolding varint_within
returns-clause-bytes c = refl
