use Rattle.log_laws.proofs.Crash.{reads_front}
use Rattle.log_laws.proofs.Recovers.{recovers_front}
use Rattle.log_laws.proofs.a_front.Goals as goal

pub returns : goal.returns
returns c = record {
  read = λ number image whole kept records written within spelled spells none. reads_front number image whole kept records written spells within spelled none;
  recovered = λ number image whole written r is spells none. recovers_front number image whole written r spells is none;
}
