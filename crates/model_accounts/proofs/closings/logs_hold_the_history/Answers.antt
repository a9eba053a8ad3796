use Rattle.model_accounts.proofs.closings.logs_hold_the_history.Goals as goal
use Rattle.model_accounts.proofs.Logs.{parts_are_groups, same_records, has_synced, lost_record}

pub returns : goal.returns
returns c = record { groups = parts_are_groups; records = same_records; synced = has_synced; lost = lost_record }
