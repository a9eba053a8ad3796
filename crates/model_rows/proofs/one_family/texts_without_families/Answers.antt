use Rattle.std.proofs.Common.{refl}
use Rattle.model_rows.proofs.OneFamily.{counted_rows, its_lines}
use Rattle.model_rows.proofs.one_family.texts_without_families.Goals as goal

pub returns : goal.returns
returns c = record { state = λ word last rows. rw (counted_rows rows, its_lines word rows) refl }
