use Rattle.list_log.proofs.RowTexts.{counted_list, counted_scan}
use Rattle.list_log.proofs.rows.a_changed_byte_is_counted.Goals as goal

pub returns-clause-list : goal.returns-clause-list
returns-clause-list c = counted_list

pub returns-clause-scan : goal.returns-clause-scan
returns-clause-scan c = counted_scan
