use Rattle.std.proofs.Common.{◌≡◌, take}
use Rattle.replay_schedules.specs.Records.{run_over}
use Rattle.replay_schedules.proofs.records.run_of.Given as goal

-- the run of the entries so far
abbrev pub invariant-loop-entry : goal.invariant-loop-entry
invariant-loop-entry l = l.run ≡ run_over (take l.entry-index l.group)
