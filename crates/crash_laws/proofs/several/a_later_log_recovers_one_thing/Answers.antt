use Rattle.crash_laws.proofs.LaterLog.{later_some, later_one}
use Rattle.crash_laws.proofs.several.a_later_log_recovers_one_thing.Goals as goal

pub returns : goal.returns
returns c = record { some = later_some; at_most_one = later_one }
