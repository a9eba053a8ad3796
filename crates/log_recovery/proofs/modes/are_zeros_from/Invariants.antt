use Rattle.std.proofs.Common.{◌≡◌, ◌-◌, ◌^◌, ◌≤◌, take, drop, true, IfSome}
use Rattle.model_base.specs.Reading.{are_zeros}
use Rattle.log_recovery.proofs.modes.are_zeros_from.Given as goal

-- all bytes that were looked at so far are zeros
abbrev pub invariant-loop-len : goal.invariant-loop-len
invariant-loop-len g l = record {
  after : l.fn.from ≤ l.at;
  zeros : IfSome (g.R.ReadAt.held l.fn.disk) (λ d. are_zeros (take (l.at - l.fn.from) (drop l.fn.from d)) ≡ true);
  worked : g.R.ReadAt.failures l.disk ≡ g.R.ReadAt.failures l.fn.disk;
  disk : g.R.ReadAt.only_reads l.fn.disk l.disk;
}

abbrev pub decreases-loop-len : goal.decreases-loop-len
decreases-loop-len g l = 2 ^ 63 - l.at
