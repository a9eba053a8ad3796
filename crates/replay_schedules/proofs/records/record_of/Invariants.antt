use Rattle.std.proofs.Common.{◌≡◌, take}
use Rattle.replay_core.specs.Shown.{plans_in}
use Rattle.replay_schedules.specs.Records.{records_over}
use Rattle.replay_schedules.proofs.records.record_of.Given as goal

-- the batch has the records of the entries so far
abbrev pub invariant-loop-entry : goal.invariant-loop-entry
invariant-loop-entry l = l.batch.records ≡ records_over (plans_in l.core) (take l.entry-index l.group)
