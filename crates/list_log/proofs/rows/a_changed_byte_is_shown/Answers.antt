use Rattle.std.proofs.Common.{refl}
use Rattle.model_base.specs.Varint.{varint_within}
use Rattle.list_log.proofs.RowTexts.{shown_list, shown_scan}
use Rattle.list_log.proofs.rows.a_changed_byte_is_shown.Goals as goal

pub returns-clause-bytes : goal.returns-clause-bytes
unfolding varint_within
returns-clause-bytes c = refl

pub returns-clause-list : goal.returns-clause-list
returns-clause-list c = shown_list

pub returns-clause-scan : goal.returns-clause-scan
returns-clause-scan c = shown_scan
