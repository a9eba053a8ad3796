-- What calls of a log do to its disks' count of faults, whatever the log is made of.
use Rattle.std.specs.Prelude.{◌≡◌, ℕ, ◌≤◌, Option, None, IfSome}
use Rattle.model_base.specs.Counts.{Rose}

-- In one call, which was answered with this fault, if it failed, the count hasn't fallen. If the call failed, the count
-- rose to the fault's count, and is at least that; if it worked, the count is as before.
pub record CameInCall (before now : ℕ) (failed : Option ℕ) : Type 0 where
  pub later : before ≤ now
  pub rose : IfSome failed (λ count. Rose before count × (count ≤ now))
  pub no_fault : failed ≡ None → now ≡ before

-- Over calls of a log that had no fault before them, between which it may have been read, the count hasn't fallen. If
-- the log has a fault now, the count rose to the fault's count, and is at least that.
pub record CameInCalls (before now : ℕ) (fault : Option ℕ) : Type 0 where
  pub later : before ≤ now
  pub rose : IfSome fault (λ count. Rose before count × (count ≤ now))
