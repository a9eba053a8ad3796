-- The tag's place in the list.
use Rattle.std.proofs.Common.{◌∙◌, refl, arith}
use Rattle.list_text.specs.declared.kinds.Kind.TheVariants.{Unknown}
use Rattle.list_text.proofs.kinds.kind_of.Goals as goal

pub returns : goal.returns
returns c = c.unwrap_or.ensures ∙ rw (c.copied.ensures) (c.get.ensures.lookup.4 (omega arith) Unknown ∙ rw c.from.ensures refl)
