-- How the count of a log's disks goes on while calls write the log and others read it.
use Rattle.std.specs.Prelude.{◌≡◌, ℕ, ◌≤◌, List, [], Option, None, IfSome}
use Rattle.std.specs.List.{AllByRecursion}
use Rattle.model_base.specs.Counts.{Rose}
use Rattle.model_base.specs.Outcomes.{AreOwnFaults}

-- The count has come from `before` to `now`. The log has this fault, if a call that wrote failed, and reads of the log
-- that failed were answered with these counts. Each of them is a count that was reached since then, and none is that of
-- another one. Where nothing failed, the count is as before.
pub record AreCounted (before now : ℕ) (fault : Option ℕ) (reads : List ℕ) : Type 0 where
  pub later : before ≤ now
  pub rose : IfSome fault (λ count. Rose before count × (count ≤ now))
  pub reads_rose : AllByRecursion (λ count. Rose before count × (count ≤ now)) reads
  pub own : AreOwnFaults now fault reads
  pub no_fault : fault ≡ None → reads ≡ [] → now ≡ before
