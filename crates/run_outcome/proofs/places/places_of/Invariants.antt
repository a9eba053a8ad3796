use Rattle.std.proofs.Common.{◌≡◌, ◌+◌, ◌++◌, drop}
use Rattle.run_outcome.specs.Places.{places_by}
use Rattle.run_outcome.proofs.places.places_of.Given as goal

-- the places so far and those of the clients that are left are all of them
abbrev pub invariant-loop-index : goal.invariant-loop-index
invariant-loop-index l = l.places.items ++ places_by (l.index + 1) (drop l.index l.lists) ≡ places_by 1 l.lists
