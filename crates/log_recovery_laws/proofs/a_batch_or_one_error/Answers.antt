use Rattle.log_batch.proofs.OneAnswer.{one_batch, one_batch_error, no_batch_error}
use Rattle.log_recovery_laws.proofs.Batches.{batch_or_error}
use Rattle.log_recovery_laws.proofs.a_batch_or_one_error.Goals as goal

pub returns : goal.returns
returns c = record {
  some = batch_or_error;
  one_batch = one_batch;
  one_error = one_batch_error;
  never_both = no_batch_error;
}
