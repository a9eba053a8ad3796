-- Devices in memory number their calls, and make those of a list fail.
use Rattle.std.specs.Prelude.{◌≡◌, ◌==◌, ℕ, ◌+◌, ◌-◌, ◌^◌, min, Bool, ◌||◌, List, Result, is_err, if◌then◌else◌}
use Rattle.std.specs.List.{list_any}

-- the numbers of the calls that must fail, how many calls were made, and how many of them failed
pub record Listed : Type 0 where
  pub fails : List ℕ
  pub calls : ℕ
  pub faults : ℕ

-- before the first call
abbrev pub fresh : List ℕ → Listed
fresh fails = record { fails = fails; calls = 0; faults = 0 }

-- a count of faults after a call that failed or didn't; it stops at the greatest u64
abbrev pub faults_after_call : Bool → ℕ → ℕ
faults_after_call failed faults = if failed then min (faults + 1) (2 ^ 64 - 1) else faults

-- A call fails just if its number is listed or the device is full, and is then counted as a fault. Calls are numbered
-- from 1. Both counts stop at the greatest u64.
pub record FailsAsListed {T E : Type 0} (old new : Listed) (full : Bool) (result : Result T E) : Type 0 where
  pub list : new.fails ≡ old.fails
  pub number : new.calls ≡ min (old.calls + 1) (2 ^ 64 - 1)
  pub fails : is_err result ≡ (list_any (λ n. n == new.calls) old.fails || full)
  pub faults : new.faults ≡ faults_after_call (is_err result) old.faults
