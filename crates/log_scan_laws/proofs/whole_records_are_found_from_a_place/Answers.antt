use Rattle.log_scan_laws.proofs.WholeFound.{found_from_there, found_in_order}
use Rattle.log_scan_laws.proofs.whole_records_are_found_from_a_place.Goals as goal

pub returns : goal.returns
returns c = record { from_there = found_from_there; in_block_order = found_in_order }
