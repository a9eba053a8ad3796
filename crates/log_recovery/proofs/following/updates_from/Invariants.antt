use Rattle.std.proofs.Common.{◌≡◌, ◌-◌, ◌^◌, ◌<◌, None, IfSome}
use Rattle.log_recovery.specs.Following.{RisesTo}
use Rattle.log_recovery.proofs.FollowSteps.{IsSoFar}
use Rattle.log_recovery.proofs.following.updates_from.Given as goal

-- The records between the place and the reader's would be kept, none goes past `upto`, and those that are asked for are
-- picked. The last sequence hasn't fallen, and is above `upto` only if that of the place was.
abbrev pub invariant-loop-start : goal.invariant-loop-start
invariant-loop-start g l = record {
  number : l.log.number ≡ l.fn.number;
  going : l.log.stopped ≡ None;
  so_far : IfSome (g.R.ReadAt.held l.fn.disk) (IsSoFar l.fn.number l.fn.since l.fn.upto l.fn.from l.picked l.log);
  small : l.picked.end < 2 ^ 63;
  last : RisesTo l.fn.upto l.fn.from.last l.picked.last;
  worked : g.R.ReadAt.failures l.disk ≡ g.R.ReadAt.failures l.fn.disk;
  disk : g.R.ReadAt.only_reads l.fn.disk l.disk;
}

abbrev pub decreases-loop-start : goal.decreases-loop-start
decreases-loop-start g l = 2 ^ 63 - l.log.place
