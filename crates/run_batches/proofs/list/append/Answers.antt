use Rattle.std.proofs.Common.{rules}
use Rattle.run_batches.proofs.list.append.Goals as goal

pub returns-clause-end : goal.returns-clause-end
returns-clause-end c = search rules
