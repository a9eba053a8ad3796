use Rattle.batch_operations.proofs.BatchesShown.{batch_shown}
use Rattle.batch_operations.proofs.laws.batches_are_shown.Goals as goal

pub returns : goal.returns
returns c = batch_shown
