use Rattle.std.proofs.Common.{◌≡◌, map, take}
use Rattle.replay_core.specs.Shown.{plans_in}
use Rattle.replay_schedules.specs.Replaying.{entry_by}
use Rattle.replay_schedules.proofs.history.history_of.Given as goal

-- the history has the entries so far, each with its batch
abbrev pub invariant-loop-entry : goal.invariant-loop-entry
invariant-loop-entry l = l.history.items ≡ map (entry_by (plans_in l.core)) (take l.entry-index l.entries)
