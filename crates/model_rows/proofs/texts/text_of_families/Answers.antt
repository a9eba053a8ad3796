use Rattle.std.proofs.Common.{refl}
use Rattle.model_base.specs.Varint.{varint_within}
use Rattle.std.specs.Fmt.{digits}
use Rattle.model_rows.proofs.texts.text_of_families.Goals as goal

pub returns : goal.returns
unfolding varint_within digits
returns c = record { text = refl }
