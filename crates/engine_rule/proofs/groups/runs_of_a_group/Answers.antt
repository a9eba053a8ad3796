use Rattle.engine_rule.proofs.Plans.{versions_runs}
use Rattle.engine_rule.proofs.groups.runs_of_a_group.Goals as goal

pub returns : goal.returns
returns c = record { runs = λ last requests. (versions_runs last requests).0; ends = λ last requests. (versions_runs last requests).1 }
