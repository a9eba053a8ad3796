-- What is known of each entry of the history.
use Rattle.std.specs.Prelude.{◌<◌, ◌≤◌, List, length}
use Rattle.model_base.specs.History.{max_sequence}
use Rattle.replay_plans.specs.declared.plan.ClientPlan.{ClientPlan}
use Rattle.replay_core.specs.Shown.{CoreEntry}

-- an entry's client has a plan, its batch has lines, and its run isn't empty and ends at the greatest sequence or
-- before
pub record IsWithinPlans (plans : List ClientPlan) (e : CoreEntry) : Type 0 where
  pub from_one : 1 ≤ e.client
  pub few : e.client ≤ length plans
  pub some_lines : e.batch.from < e.batch.to
  pub some : e.run.first ≤ e.run.last
  pub fits : e.run.last ≤ max_sequence
