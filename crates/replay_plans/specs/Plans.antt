-- The batches that lines of clients' plans make.
use Rattle.std.specs.Prelude.{ℕ, zero, suc, ◌-◌, List, [], take, drop, filter_map, slice_get}
use Rattle.std.specs.Option.{option_map_or}
use Rattle.model_base.specs.Batch.{Record}
use Rattle.model_base.specs.Calls.{Command}
use Rattle.run_command_list.specs.Kinds.{record_added}
use Rattle.replay_plans.specs.declared.plan.Lines.{Lines}

-- the items from one place on and before another
abbrev pub between : {A : Type 0} → ℕ → ℕ → List A → List A
between from to xs = take (to - from) (drop from xs)

-- the records that the commands from one place on and before another add
abbrev pub added_between : ℕ → ℕ → List Command → List Record
added_between from to commands = filter_map record_added (between from to commands)

-- the records that lines of a plan add
abbrev pub records_in : List Command → Lines → List Record
records_in plan lines = added_between lines.from lines.to plan

-- the records that lines of a client's plan add; clients are numbered from 1, and where there is no such client there
-- are none
abbrev pub records_of : List (List Command) → ℕ → Lines → List Record
records_of plans zero lines = []
records_of plans (suc c) lines = option_map_or (λ plan. records_in plan lines) (slice_get plans c) []
