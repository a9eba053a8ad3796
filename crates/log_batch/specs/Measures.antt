-- What the checks of a commit see of a batch.
use Rattle.std.specs.Prelude.{ℕ, List}
use Rattle.model_base.specs.Batch.{Record, count_of, size_of_batch}
use Rattle.model_base.specs.Progress.{families_in, first_missing}
use Rattle.log_batch.specs.declared.checks.Measure.{Measure}

-- where there are the families with the numbers below `families`
abbrev pub measure_of : ℕ → List Record → Measure
measure_of families records = record {
  size = size_of_batch records;
  count = count_of records;
  missing = first_missing families (families_in records);
}
