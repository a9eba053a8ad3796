use Rattle.std.proofs.Common.{◌↔◌, drop}
use Rattle.replay_plans.proofs.SmallLemmas.{SmallFrom}
use Rattle.replay_plans.proofs.small.is_small.Given as goal

-- the plan is small just where the lines that are left are, with the size so far
abbrev pub invariant-loop-place : goal.invariant-loop-place
invariant-loop-place l = SmallFrom l.size (drop l.place l.plan) ↔ SmallFrom 12 l.plan
