use Rattle.std.proofs.Common.{refl}
use Rattle.model_rows.proofs.OneFamily.{none_missing}
use Rattle.model_rows.proofs.one_family.checks_without_families.Goals as goal

pub returns : goal.returns
returns c = record { refused = λ families batch_bytes stopping records how some none. rw (none_missing families records some none) refl }
