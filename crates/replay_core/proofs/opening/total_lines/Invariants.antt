use Rattle.std.proofs.Common.{◌≡◌, length, take, sum_by}
use Rattle.replay_plans.specs.declared.plan.ClientPlan.{ClientPlan}
use Rattle.replay_core.proofs.opening.total_lines.Given as goal

abbrev pub invariant-loop-plan : goal.invariant-loop-plan
invariant-loop-plan l = l.count ≡ sum_by (λ (p : ClientPlan). length p) (take l.plan-index l.plans)
