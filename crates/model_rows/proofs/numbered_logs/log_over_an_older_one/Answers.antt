use Rattle.std.proofs.Common.{refl}
use Rattle.std.specs.Fmt.{digits}
use Rattle.model_base.specs.Reading.{seen_within}
use Rattle.model_base.specs.Varint.{varint_within}
use Rattle.model_rows.proofs.numbered_logs.log_over_an_older_one.Goals as goal

pub returns-clause-own : goal.returns-clause-own
unfolding varint_within seen_within
returns-clause-own c = refl

pub returns-clause-behind : goal.returns-clause-behind
unfolding varint_within seen_within
returns-clause-behind c = refl

pub returns-clause-behind_cut_off : goal.returns-clause-behind_cut_off
unfolding varint_within seen_within
returns-clause-behind_cut_off c = refl

pub returns-clause-own_cut_off : goal.returns-clause-own_cut_off
unfolding varint_within seen_within
returns-clause-own_cut_off c = refl

pub returns-clause-ten_bytes : goal.returns-clause-ten_bytes
unfolding varint_within seen_within
returns-clause-ten_bytes c = refl

pub returns-clause-by_the_older_number : goal.returns-clause-by_the_older_number
unfolding varint_within seen_within
returns-clause-by_the_older_number c = refl

pub returns-clause-without_a_number : goal.returns-clause-without_a_number
unfolding varint_within seen_within
returns-clause-without_a_number c = refl

pub returns-clause-text : goal.returns-clause-text
unfolding varint_within digits
returns-clause-text c = refl
