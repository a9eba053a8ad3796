use Rattle.std.proofs.Common.{◌≡◌, ◌++◌, length}
use Rattle.std.specs.Slice.Iter.{iter_rest}
use Rattle.base_maps.specs.Parts.{all_in}
use Rattle.base_maps.proofs.byte_map.BytePairsIterator.next.Given as goal

-- what is left is the rest of this shelf, and then the shelves after it
abbrev pub invariant-loop-key : goal.invariant-loop-key
invariant-loop-key l = l.self-inside.pairs ++ all_in (iter_rest l.self-inside.shelves) ≡ l.fn.self

abbrev pub decreases-loop-key : goal.decreases-loop-key
decreases-loop-key l = length (iter_rest l.self-inside.shelves)
