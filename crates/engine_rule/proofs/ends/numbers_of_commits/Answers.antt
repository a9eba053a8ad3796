use Rattle.engine_rule.proofs.Reaching.{last_bound, versions_length}
use Rattle.engine_rule.proofs.ends.numbers_of_commits.Goals as goal

pub returns : goal.returns
returns c = record { reach = versions_length; below = last_bound }
