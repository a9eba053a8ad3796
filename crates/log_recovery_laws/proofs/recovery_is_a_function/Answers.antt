use Rattle.log_recovery_laws.proofs.Recovering.{recovers_some}
use Rattle.log_recovery_laws.proofs.OneRecovery.{recovers_one}
use Rattle.log_recovery_laws.proofs.recovery_is_a_function.Goals as goal

pub returns : goal.returns
returns c = record { some = recovers_some; at_most_one = recovers_one }
