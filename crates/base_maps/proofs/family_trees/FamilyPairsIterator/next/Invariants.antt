use Rattle.std.proofs.Common.{◌≡◌, ◌∷◌, length}
use Rattle.base_maps.specs.Families.{pairs_of}
use Rattle.base_maps.proofs.family_trees.FamilyPairsIterator.next.Given as goal

-- what is left is the rest of this family, and then the families after it
abbrev pub invariant-loop-key : goal.invariant-loop-key
invariant-loop-key l = pairs_of ((l.self-inside.family, l.self-inside.rows) ∷ l.self-inside.others) ≡ l.fn.self

abbrev pub decreases-loop-key : goal.decreases-loop-key
decreases-loop-key l = length l.self-inside.others
