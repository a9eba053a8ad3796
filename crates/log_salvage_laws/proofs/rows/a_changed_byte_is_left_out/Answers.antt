use Rattle.std.proofs.Common.{refl}
use Rattle.model_base.specs.Varint.{varint_within}
use Rattle.log_salvage_laws.proofs.Worked.{kept_from_two, kept_of_all}
use Rattle.log_salvage_laws.proofs.rows.a_changed_byte_is_left_out.Goals as goal

pub returns-clause-all : goal.returns-clause-all
returns-clause-all c = kept_of_all

pub returns-clause-from_two : goal.returns-clause-from_two
returns-clause-from_two c = kept_from_two

pub returns-clause-bytes : goal.returns-clause-bytes
unfolding varint_within
returns-clause-bytes c = refl
