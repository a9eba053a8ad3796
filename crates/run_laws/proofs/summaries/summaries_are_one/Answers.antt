-- The law, part by part.
use Rattle.run_laws.proofs.OneSummary as one
use Rattle.run_laws.proofs.SmallValues as small
use Rattle.run_laws.proofs.summaries.summaries_are_one.Goals as goal

pub returns : goal.returns
returns c = record {
  one_summary = λ seed clients batches ended settings o few bounded start opening bytes some_family legal no_fault found. one.one_summary seed clients batches ended settings o few bounded start opening bytes some_family legal no_fault found;
  small_values = small.small_values;
}
