use Rattle.std.proofs.Common.{refl}
use Rattle.std.specs.Fmt.{digits}
use Rattle.model_rows.proofs.texts.text_of_refused_commit.Goals as goal

pub returns : goal.returns
unfolding digits
returns c = record { text = refl }
