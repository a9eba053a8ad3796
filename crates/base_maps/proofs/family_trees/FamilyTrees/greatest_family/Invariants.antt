use Rattle.std.proofs.Common.{◌≡◌}
use Rattle.model_base.specs.Map.{greatest_family}
use Rattle.base_maps.specs.Families.{pairs_of}
use Rattle.base_maps.proofs.Families.{greatest_behind}
use Rattle.base_maps.proofs.family_trees.FamilyTrees.greatest_family.Given as goal

-- what is left can only raise it
abbrev pub invariant-loop-family : goal.invariant-loop-family
invariant-loop-family l = greatest_behind l.greatest (pairs_of l.family-iterator) ≡ greatest_family l.self
