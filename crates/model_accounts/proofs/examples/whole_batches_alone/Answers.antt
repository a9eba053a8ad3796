use Rattle.model_accounts.proofs.OneBatch as batch
use Rattle.model_accounts.proofs.examples.whole_batches_alone.Goals as goal

pub returns : goal.returns
returns c = record { whole = batch.whole; half = batch.half }
