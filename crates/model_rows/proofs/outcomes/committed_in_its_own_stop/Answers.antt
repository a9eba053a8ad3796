use Rattle.model_rows.proofs.OwnStop.{refused-legal, not_accepted, not_failed, not_full}
use Rattle.model_rows.proofs.outcomes.committed_in_its_own_stop.Goals as goal

pub returns : goal.returns
returns c = record { legal = refused-legal; not_accepted = not_accepted; not_failed = not_failed; not_full = not_full }
