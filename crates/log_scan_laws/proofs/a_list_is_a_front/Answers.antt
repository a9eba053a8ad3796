use Rattle.log_scan_laws.proofs.OneScan.{list_front}
use Rattle.log_scan_laws.proofs.a_list_is_a_front.Goals as goal

pub returns : goal.returns
returns c = list_front
