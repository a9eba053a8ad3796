use Rattle.std.proofs.Common.{◌≡◌, ℕ, ◌<◌, ◌≤◌, true, take}
use Rattle.model_base.specs.Grouping.{size_of, fits_at}
use Rattle.line_grouping.proofs.group.group_len.Given as goal

-- the writers so far fit, and `sum` is the sum of their sizes
abbrev pub invariant-loop-place : goal.invariant-loop-place
invariant-loop-place l = (l.sum ≡ size_of (take l.place l.queue))
    × ((k : ℕ) → k < l.place → 1 ≤ k → fits_at l.max l.queue k ≡ true)
