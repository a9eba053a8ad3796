use Rattle.std.proofs.Common.{[], ◌∷◌, inr, lit≤, refl}
use Rattle.model_base.specs.Batch.{no_record}
use Rattle.model_rows.proofs.bytes.batch_with_another_tag.Goals as goal

-- no records, and then bytes with a tag that isn't read
pub returns : goal.returns
returns c = no_record [] (2 ∷ 1 ∷ 97 ∷ 1 ∷ 49 ∷ []) (lit≤ tt) tt refl (inr (refl, refl))
