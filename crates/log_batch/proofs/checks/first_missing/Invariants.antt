-- the families of the records before those that are left are there
use Rattle.std.proofs.Common.{◌≡◌}
use Rattle.model_base.specs.Progress.{families_in, first_missing}
use Rattle.log_batch.proofs.checks.first_missing.Given as goal

abbrev pub invariant-loop-view : goal.invariant-loop-view
invariant-loop-view l = first_missing l.families (families_in l.fn.records) ≡ first_missing l.families (families_in l.view-iterator)
