use Rattle.std.proofs.Common.{subst}
use Rattle.model_base.specs.Batch.{IsBatchError}
use Rattle.model_base.specs.Recovery.{short, bad_varint, tag, count}
use Rattle.log_recovery.proofs.kept.end_of.Goals as goal

pub returns-in-Short : goal.returns-in-Short
returns-in-Short c = λ last bytes h. short (subst (IsBatchError bytes) c.in-Short.is h)

pub returns-in-BadVarint : goal.returns-in-BadVarint
returns-in-BadVarint c = λ last bytes h. bad_varint (subst (IsBatchError bytes) c.in-BadVarint.is h)

pub returns-in-Tag : goal.returns-in-Tag
returns-in-Tag c = λ last bytes h. tag (subst (IsBatchError bytes) c.in-Tag.is h)

pub returns-in-Count : goal.returns-in-Count
returns-in-Count c = λ last bytes h. count (subst (IsBatchError bytes) c.in-Count.is h)
