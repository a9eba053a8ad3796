use Rattle.std.proofs.Common.{ap, ◌∙◌}
use Rattle.run_batches.specs.OneBatch.{batch_bytes}
use Rattle.run_batches.proofs.accepted.AcceptedBatchRef.bytes.Goals as goal

pub returns : goal.returns
returns c = c.self.inside.holds.is.spelled ∙ ap batch_bytes c.self.view_is
