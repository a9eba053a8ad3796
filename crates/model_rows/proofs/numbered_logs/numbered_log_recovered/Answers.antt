use Rattle.model_rows.proofs.WholeLogs.{both_by_number}
use Rattle.model_rows.proofs.numbered_logs.numbered_log_recovered.Goals as goal

pub returns : goal.returns
returns c = record { recovered = both_by_number }
