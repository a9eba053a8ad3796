use Rattle.log_scan_laws.proofs.GoingOn.{scan_goes_on}
use Rattle.log_scan_laws.proofs.Growing.{found_stays}
use Rattle.log_scan_laws.proofs.a_new_scan_goes_on.Goals as goal

pub returns : goal.returns
returns c = record { stays = found_stays; joined = scan_goes_on }
