use Rattle.std.proofs.Common.{rules}
use Rattle.engine_controller.proofs.numbers.Numbers.after_refill.Goals as goal

pub returns-clause-numbers : goal.returns-clause-numbers
returns-clause-numbers c = search rules
