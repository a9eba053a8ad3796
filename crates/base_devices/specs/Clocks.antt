-- How long a clock was asked to let pass.
use Rattle.std.specs.Prelude.{ℕ, ◌+◌, ◌-◌, ◌^◌, ◌≤◌, min}

-- a count of microseconds, after a pause of this many more; it stops at the greatest u64
abbrev pub paused_after : ℕ → ℕ → ℕ
paused_after before micros = min (before + micros) (2 ^ 64 - 1)

-- from the one count to the other, the clock was asked to let at least this number of microseconds pass
abbrev pub HasPaused : ℕ → ℕ → ℕ → Type 0
HasPaused before micros now = paused_after before micros ≤ now
