use Rattle.log_scan_laws.proofs.OneScan.{one_scan_from}
use Rattle.log_scan_laws.proofs.SomeScan.{some_scan_from}
use Rattle.log_scan_laws.proofs.a_scan_from_a_place_is_one.Goals as goal

pub returns : goal.returns
returns c = record { some = some_scan_from; at_most_one = one_scan_from }
