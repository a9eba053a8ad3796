use Rattle.std.proofs.Common.{◌≤◌}
use Rattle.log_recovery_laws.proofs.OneLog.{one_recovered, one_back, one_prefix, one_front}
use Rattle.log_recovery_laws.proofs.one_of_several.Goals as goal

pub returns : goal.returns
returns c = record { recovered = one_recovered; back = one_back; prefix = λ least. one_prefix (λ n. least ≤ n); front = one_front }
