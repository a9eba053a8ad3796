use Rattle.line_grouping.proofs.Longest.{longest}
use Rattle.line_grouping.proofs.group.group_is_longest.Goals as goal

pub returns : goal.returns
returns c = longest
