use Rattle.std.proofs.Common.{◌≡◌, ◌+◌, length}
use Rattle.base_maps.specs.Families.{pairs_of}
use Rattle.base_maps.proofs.family_trees.FamilyTrees.len.Given as goal

-- the maps so far, and after them those that are left, have all keys
abbrev pub invariant-loop-map : goal.invariant-loop-map
invariant-loop-map l = l.count + length (pairs_of l.map-iterator) ≡ length l.self
