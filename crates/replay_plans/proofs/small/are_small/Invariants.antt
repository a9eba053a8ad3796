use Rattle.std.proofs.Common.{◌↔◌, drop}
use Rattle.std.specs.List.{AllByRecursion}
use Rattle.replay_plans.specs.Small.{IsSmallPlan}
use Rattle.replay_plans.proofs.small.are_small.Given as goal

-- all plans are small just where those that are left are
abbrev pub invariant-loop-plan : goal.invariant-loop-plan
invariant-loop-plan l = AllByRecursion IsSmallPlan (drop l.plan-index l.plans) ↔ AllByRecursion IsSmallPlan l.plans
