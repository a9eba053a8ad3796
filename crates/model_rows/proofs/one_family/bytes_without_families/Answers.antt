use Rattle.model_rows.proofs.OneFamily.{its_bytes}
use Rattle.model_rows.proofs.one_family.bytes_without_families.Goals as goal

pub returns : goal.returns
returns c = record { spelled = λ r none. its_bytes r none }
