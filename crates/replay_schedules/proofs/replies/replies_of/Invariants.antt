use Rattle.std.proofs.Common.{◌≡◌, ◌++◌, drop, length}
use Rattle.replay_schedules.specs.Maps.{IsMapOf}
use Rattle.replay_schedules.specs.Replaying.{InEachShown, replies_by}
use Rattle.replay_schedules.proofs.replies.replies_of.Given as goal

-- the replies so far, with those to the commands that are left, are the replies to all commands
abbrev pub invariant-loop-place : goal.invariant-loop-place
invariant-loop-place l = record {
  reads : InEachShown l.core (λ s. IsMapOf s.entries l.reads);
  so_far : InEachShown l.core (λ s.
      l.replies.items ++ replies_by s (drop l.place l.plan) (drop (length l.replies.items) l.told) ≡ replies_by s l.plan l.told);
}
