use Rattle.base_maps.proofs.Families.{no_others}
use Rattle.base_maps.proofs.family_trees.FamilyTrees.new.Goals as goal

pub invariant_of-result : goal.invariant_of-result
invariant_of-result c = no_others _ _ c.new.ensures c.new-2.ensures.empty
