-- What ends at the damage isn't what a scan finds that goes on.
use Rattle.std.proofs.Common.{◌≡◌, true, length, ap}
use Rattle.model_base.specs.Log.{plain_log}
use Rattle.log_scan.specs.Scanning.{IsScan, Scan}
use Rattle.list_log.specs.Rows.{damaged_log}
use Rattle.list_log.proofs.ChangedByte.{scan}
use Rattle.log_scan_laws.specs.Rows.{found_before, found_in_all}
use Rattle.log_scan_laws.proofs.OneScan.{one_scan}

differs : length found_in_all.items ≡ length found_before.items → ⊥
differs same = cc

pub not_before : IsScan plain_log true damaged_log found_before → ⊥
not_before is = differs (ap (λ (s : Scan). length s.items) (one_scan plain_log true damaged_log found_in_all found_before scan is))
