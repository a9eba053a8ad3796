use Rattle.std.proofs.Common.{refl}
use Rattle.std.specs.Fmt.{digits}
use Rattle.model_rows.proofs.texts.lines_of_logs.Goals as goal

pub returns : goal.returns
unfolding digits
returns c = record { one = λ len. refl; one_with_a_fault = λ len count. refl; two = refl; two_with_a_fault = refl }
