use Rattle.model_accounts.proofs.closings.led_groups.Goals as goal
use Rattle.model_accounts.proofs.Wholes.{whole_of_queue}
use Rattle.model_accounts.proofs.Leading.{groups_from_led}

pub returns : goal.returns
returns c = record { whole = whole_of_queue; groups = groups_from_led }
