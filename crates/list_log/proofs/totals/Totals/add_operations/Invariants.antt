use Rattle.std.proofs.Common.{length}
use Rattle.list_log.proofs.Counted.{Counted}
use Rattle.list_log.proofs.totals.Totals.add_operations.Given as goal

-- before the rest are operations, and those of them that would be shown are counted
abbrev pub invariant-loop-rest : goal.invariant-loop-rest
invariant-loop-rest l = Counted l.settings l.body l.rest l.fn.self l.self l.any

abbrev pub decreases-loop-rest : goal.decreases-loop-rest
decreases-loop-rest l = length l.rest
