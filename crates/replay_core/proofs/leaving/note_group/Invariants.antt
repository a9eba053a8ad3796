use Rattle.std.proofs.Common.{◌≡◌, ◌++◌, List, length, map, take, vec_len}
use Rattle.std.specs.List.{AllByRecursion}
use Rattle.model_core.specs.Core as core
use Rattle.replay_plans.specs.declared.plan.ClientPlan.{ClientPlan}
use Rattle.replay_core.specs.Shown.{shown_writer}
use Rattle.replay_core.specs.Mirrors.{AreDone, IsClientOf}
use Rattle.replay_core.proofs.leaving.note_group.Given as goal

-- the writers so far have left
abbrev pub invariant-loop-writer : goal.invariant-loop-writer
invariant-loop-writer l = (vec_len l.done ≡ vec_len l.initial.done)
    × ((plans : List ClientPlan) (leaving : List core.Writer) → AreDone plans l.initial.done.items leaving → AllByRecursion (IsClientOf (length l.initial.done.items)) l.group
    → AreDone plans l.done.items (leaving ++ map (shown_writer plans) (take l.writer-index l.group)))
