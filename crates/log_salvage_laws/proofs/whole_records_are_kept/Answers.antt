use Rattle.log_scan_laws.proofs.WholeFound.{whole_found}
use Rattle.log_salvage_laws.proofs.OneList.{kept_there}
use Rattle.log_salvage_laws.proofs.whole_records_are_kept.Goals as goal

pub returns : goal.returns
returns c = λ range number file records block before fragments keeps plain stand one verdict.
    let found = whole_found number file keeps.scan block before fragments keeps.is plain stand one in kept_there range keeps.scan.items found.0 found.1 records _ _ _ found.2 keeps.are verdict
