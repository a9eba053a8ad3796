use Rattle.model_accounts.proofs.closings.attempts_are_shown.Goals as goal
use Rattle.model_accounts.proofs.LostBatches.{transcript_visible, lost_is_faulted}

pub returns : goal.returns
returns c = record { shown = transcript_visible; lost = lost_is_faulted }
