use Rattle.log_scan_laws.proofs.OneScan.{one_scan}
use Rattle.log_scan_laws.proofs.SomeScan.{some_scan}
use Rattle.log_scan_laws.proofs.a_scan_is_one.Goals as goal

pub returns : goal.returns
returns c = record { some = some_scan; at_most_one = one_scan }
