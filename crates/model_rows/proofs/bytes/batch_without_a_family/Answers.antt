use Rattle.std.proofs.Common.{[], ◌∷◌, inl, lit≤, refl}
use Rattle.model_base.specs.Batch.{no_record}
use Rattle.model_rows.proofs.bytes.batch_without_a_family.Goals as goal

-- no records, and then a tag after which a family's number begins, which says that it goes on
pub returns : goal.returns
returns c = no_record [] (5 ∷ 128 ∷ []) (lit≤ tt) tt refl (inl (refl, inl (lit≤ tt, (lit≤ tt, (lit≤ tt, tt)))))
