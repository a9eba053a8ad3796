use Rattle.log_recovery_laws.proofs.AllRecords.{all_read_some, all_read_one}
use Rattle.log_recovery_laws.proofs.reading_all_is_a_function.Goals as goal

pub returns : goal.returns
returns c = record { some = all_read_some; at_most_one = all_read_one }
