use Rattle.std.proofs.Common.{◌≡◌, ◌+◌, ◌-◌, ◌^◌, ◌≤◌, List, length, map, take, drop, vec_len}
use Rattle.std.specs.Prelude.{vec_capacity}
use Rattle.std.specs.List.{AllByRecursion}
use Rattle.model_core.specs.Core as core
use Rattle.replay_plans.specs.declared.plan.ClientPlan.{ClientPlan}
use Rattle.replay_core.specs.Shown.{shown_entry}
use Rattle.replay_core.specs.Runs.{GotRuns, IsCounted, without_answer}
use Rattle.replay_core.proofs.runs.give_runs.Given as goal

-- the writers so far have got their runs, and the others are as they were
abbrev pub invariant-loop-writer : goal.invariant-loop-writer
invariant-loop-writer l = record {
  got : (plans : List ClientPlan) (s : core.State) → AllByRecursion (IsCounted plans) l.initial.group → s.entries ≡ map (shown_entry plans) l.initial.entries.items
      → vec_len l.initial.entries + length l.initial.group ≤ vec_capacity l.initial.entries
      → GotRuns plans s s.entries l.last (take l.writer-index l.initial.group) (take l.writer-index l.group) l.entries.items l.given;
  rest : drop l.writer-index l.group ≡ drop l.writer-index l.initial.group;
  writers : map without_answer l.group ≡ map without_answer l.initial.group;
  same_len : length l.group ≡ length l.initial.group;
  fits : l.given ≤ 2 ^ 56 - 1;
  front : take (vec_len l.initial.entries) l.entries.items ≡ l.initial.entries.items;
  lower : vec_len l.initial.entries ≤ vec_len l.entries;
  upper : vec_len l.entries ≤ vec_len l.initial.entries + l.writer-index;
  capacity : vec_capacity l.entries ≡ vec_capacity l.initial.entries;
}
