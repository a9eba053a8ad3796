use Rattle.std.proofs.Common.{◌≤◌, List, length}
use Rattle.model_base.specs.Calls.{Call}
use Rattle.model_core.specs.Core as core
use Rattle.replay_plans.proofs.AheadLemmas.{Reached}
use Rattle.replay_plans.proofs.ahead.look_ahead.Given as goal

-- the search has passed the lines so far
abbrev pub invariant-loop-place : goal.invariant-loop-place
invariant-loop-place l = (calls : List Call) (client : core.Client) → l.from ≤ l.at → l.at ≤ length l.plan → Reached l.plan l.at l.from l.place l.begin calls client
