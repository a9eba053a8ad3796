use Rattle.std.proofs.Common.{◌≡◌, ◌<◌, ◌≤◌, ◌^◌, length}
use Rattle.model_base.specs.Batch.{count_of, size_of_batch}
use Rattle.model_base.specs.Progress.{families_in, first_missing}
use Rattle.replay_plans.specs.Plans.{added_between}
use Rattle.replay_plans.proofs.measure.measure_batch.Given as goal

-- the lines so far are measured
abbrev pub invariant-loop-place : goal.invariant-loop-place
invariant-loop-place l = l.fn.batch.from ≤ l.fn.batch.to → l.fn.batch.to ≤ length l.plan → size_of_batch (added_between l.fn.batch.from l.place l.plan) < 2 ^ 64
    → (l.measure.size ≡ size_of_batch (added_between l.fn.batch.from l.place l.plan)) × (l.measure.count ≡ count_of (added_between l.fn.batch.from l.place l.plan)) × (l.measure.count ≤ l.measure.size)
    × (l.measure.missing ≡ first_missing l.families (families_in (added_between l.fn.batch.from l.place l.plan)))
