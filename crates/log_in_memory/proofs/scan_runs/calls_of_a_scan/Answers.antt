use Rattle.log_in_memory.proofs.Runs.{all_found, all_ended, whole_scan}
use Rattle.log_in_memory.proofs.scan_runs.calls_of_a_scan.Goals as goal

pub returns-clause-whole : goal.returns-clause-whole
returns-clause-whole c = whole_scan

pub returns-clause-rest : goal.returns-clause-rest
returns-clause-rest c = λ file first items at why all. (all.last.scanner.place, all_found file first items at why all, all_ended file first items at why all)
