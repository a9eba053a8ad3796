use Rattle.std.proofs.Common.{◌≡◌, take}
use Rattle.log_writer.specs.Sets.{count_in}
use Rattle.log_writer.proofs.counts.count_each.Given as goal

-- the faults of the logs so far are counted
abbrev pub invariant-loop-log : goal.invariant-loop-log
invariant-loop-log g l = l.count ≡ count_in (take l.log-index l.logs)
