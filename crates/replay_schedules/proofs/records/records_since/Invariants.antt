use Rattle.std.proofs.Common.{◌≡◌, take}
use Rattle.model_core.specs.Core.{log_groups}
use Rattle.replay_core.specs.Shown.{plans_in}
use Rattle.replay_schedules.specs.Replaying.{InEachShown}
use Rattle.replay_schedules.proofs.RecordLemmas.{IsLeft, given}
use Rattle.replay_schedules.proofs.records.records_since.Given as goal

-- the records are those of the groups so far, and the entries of the others are left
abbrev pub invariant-loop-count : goal.invariant-loop-count
invariant-loop-count l = record {
  left : InEachShown l.core (λ s. IsLeft (plans_in l.core) s.groups (log_groups s) l.count-index l.rest);
  records_are : InEachShown l.core (λ s. l.records ≡ given l.since l.at (take l.count-index (log_groups s)));
}
