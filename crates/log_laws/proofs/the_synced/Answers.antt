use Rattle.log_laws.proofs.Synced.{holds_synced}
use Rattle.log_laws.proofs.ReadSynced.{reads_synced}
use Rattle.log_laws.proofs.the_synced.Goals as goal

pub returns : goal.returns
returns c = record {
  recovered = λ number image whole synced batches r is begins spells are. holds_synced number image whole synced batches r spells is begins.0 begins.1 are.0 are.1 are.2;
  read = λ number image whole synced found is begins spells. reads_synced number image whole synced found spells is begins.0 begins.1;
}
