-- Counts of faults, and when a call may fail.
use Rattle.std.specs.Prelude.{◌≡◌, ℕ, ◌+◌, ◌-◌, ◌^◌, ◌≤◌, min, List, sum_by, Result, OnErr, OnOk}
pub use Rattle.model_base.specs.Counts.{Rose}

-- A call that works leaves the count, and one that fails counts one fault: the count rises by one, unless it is the
-- greatest u64.
pub record HasCause {T E : Type 0} (before now : ℕ) (result : Result T E) : Type 0 where
  pub later : before ≤ now
  pub once : now ≤ before + 1
  pub failed : OnErr result (Rose before now)
  pub worked : OnOk result (now ≡ before)

-- how many calls of several devices have failed in all, by the count of each; the count stops at the greatest u64
abbrev pub count_in_all : {D : Type 0} → (D → ℕ) → List D → ℕ
count_in_all faults devices = min (sum_by faults devices) (2 ^ 64 - 1)
