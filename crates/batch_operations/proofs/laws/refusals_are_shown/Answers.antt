use Rattle.batch_operations.proofs.RefusalsShown.{refusal_shown}
use Rattle.batch_operations.proofs.laws.refusals_are_shown.Goals as goal

pub returns : goal.returns
returns c = refusal_shown
