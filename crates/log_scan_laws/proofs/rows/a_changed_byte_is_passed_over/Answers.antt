use Rattle.std.proofs.Common.{refl}
use Rattle.model_base.specs.Varint.{varint_within}
use Rattle.list_log.proofs.ChangedByte.{list, scan}
use Rattle.log_scan_laws.proofs.ChangedByte.{not_before}
use Rattle.log_scan_laws.proofs.rows.a_changed_byte_is_passed_over.Goals as goal

pub returns-clause-bytes : goal.returns-clause-bytes
unfolding varint_within
returns-clause-bytes c = refl

pub returns-clause-list : goal.returns-clause-list
returns-clause-list c = list

pub returns-clause-scan : goal.returns-clause-scan
returns-clause-scan c = scan

pub returns-clause-nothing_left_out : goal.returns-clause-nothing_left_out
returns-clause-nothing_left_out c = not_before
