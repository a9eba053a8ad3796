use Rattle.log_recovery_laws.proofs.Reading.{reads_some}
use Rattle.log_recovery_laws.proofs.OneReading.{one_answer, no_end}
use Rattle.log_recovery_laws.proofs.reading_is_a_function.Goals as goal

pub returns : goal.returns
returns c = record {
  some = reads_some;
  at_most_one = one_answer;
  never_both = λ number file offset start end at bytes why is ends. no_end number file offset at why is.fragments is.one is.stand ends;
}
