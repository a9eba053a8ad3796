use Rattle.engine_rule.proofs.LogSights.{newest_shown}
use Rattle.engine_rule.proofs.ends.sights_of_a_client.Goals as goal

pub returns : goal.returns
returns c = record { newest = newest_shown }
