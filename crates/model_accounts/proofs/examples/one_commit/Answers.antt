use Rattle.model_accounts.proofs.OneBatch as batch
use Rattle.model_accounts.proofs.examples.one_commit.Goals as goal

pub returns : goal.returns
returns c = record { wrote = batch.wrote; run = batch.run; closing = batch.closing }
