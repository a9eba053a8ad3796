use Rattle.std.proofs.Common.{◌≡◌, Option, Some, None, refl, ◌∙◌, arith}
use Rattle.std.specs.Prelude.{option_map, unwrap_or}
use Rattle.std.specs.Borrow.{Bor}
use Rattle.std.specs.Option.{option_copied, option_flatten}
use Rattle.batch_operations.specs.declared.layout.Layout.{Layout}
use Rattle.batch_operations.proofs.layout.layout_of.Goals as goal

-- a reference to a value or none, or no reference
flattened : (found : Option (Bor (Option Layout))) → option_flatten (option_copied found) ≡ unwrap_or (option_map (λ (lent : Bor (Option Layout)). lent.now) found) None
flattened None = refl
flattened (Some lent) = refl

pub returns : goal.returns
returns c = c.flatten.ensures ∙ rw (c.copied.ensures) (flattened c.get.result ∙ (c.get.ensures.lookup.4 (omega arith) None ∙ rw c.from.ensures refl))
