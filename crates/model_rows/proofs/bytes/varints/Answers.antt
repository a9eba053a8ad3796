use Rattle.std.proofs.Common.{refl}
use Rattle.model_base.specs.Varint.{varint_within}
use Rattle.model_rows.proofs.bytes.varints.Goals as goal

pub returns-clause-greatest_of_one_byte : goal.returns-clause-greatest_of_one_byte
unfolding varint_within
returns-clause-greatest_of_one_byte c = refl

pub returns-clause-least_of_two_bytes : goal.returns-clause-least_of_two_bytes
unfolding varint_within
returns-clause-least_of_two_bytes c = refl

pub returns-clause-three_hundred : goal.returns-clause-three_hundred
unfolding varint_within
returns-clause-three_hundred c = refl

pub returns-clause-least_of_three_bytes : goal.returns-clause-least_of_three_bytes
unfolding varint_within
returns-clause-least_of_three_bytes c = refl

pub returns-clause-greatest : goal.returns-clause-greatest
unfolding varint_within
returns-clause-greatest c = refl
