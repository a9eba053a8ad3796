use Rattle.wolzenn_c.proofs.LogsInTurn.{without_numbers}
use Rattle.wolzenn_c.proofs.more_logs.logs_without_numbers.Goals as goal

pub returns : goal.returns
returns c = without_numbers
