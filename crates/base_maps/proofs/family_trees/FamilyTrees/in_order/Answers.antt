use Rattle.std.proofs.Common.{subst}
use Rattle.std.specs.List.Sorted.{IsStrictlySortedBy}
use Rattle.std.specs.Map.{keys_of}
use Rattle.model_base.specs.Map.{key_order}
use Rattle.base_maps.proofs.Families.{ordered}
use Rattle.base_maps.proofs.family_trees.FamilyTrees.in_order.Goals as goal

pub returns : goal.returns
returns c = subst (λ m. IsStrictlySortedBy key_order (keys_of m)) c.self.view_is (ordered _ c.self.invariant)
