use Rattle.model_rows.proofs.LogReads.{both, only, only_those, not_later}
use Rattle.model_rows.proofs.log_reads.right_reads.Goals as goal

pub returns : goal.returns
returns c = record { both = both; only = only; from_any = only_those; not_later = not_later }
