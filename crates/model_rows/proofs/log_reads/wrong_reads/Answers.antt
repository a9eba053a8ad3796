use Rattle.model_rows.proofs.LogReads.{none_of_others, not_swapped}
use Rattle.model_rows.proofs.log_reads.wrong_reads.Goals as goal

pub returns : goal.returns
returns c = record {
  twice = λ records. none_of_others records _ (λ e. cc e);
  left_out = λ records. none_of_others records _ (λ e. cc e);
  in_another_order = not_swapped;
  not_logged = λ records. none_of_others records _ (λ e. cc e);
}
