use Rattle.crash_laws.proofs.SeveralLogs.{no_logs, some_logs, one_of_logs, front_recovers}
use Rattle.crash_laws.proofs.several.several_logs_recover_one_thing.Goals as goal

pub returns : goal.returns
returns c = record {
  some = λ number files some are. some_logs number 0 files some are;
  at_most_one = λ number files one other. one_of_logs number 0 files one other;
  no_logs = λ number. no_logs number 0;
  prefix = front_recovers;
}
