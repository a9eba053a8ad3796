use Rattle.log_scan_laws.proofs.WholeFound.{whole_found}
use Rattle.log_scan_laws.proofs.whole_records_are_found.Goals as goal

pub returns : goal.returns
returns c = whole_found
