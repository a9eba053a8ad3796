use Rattle.std.proofs.Common.{◌≡◌, ◌++◌, drop}
use Rattle.run_outcome.specs.Places.{places_from}
use Rattle.run_outcome.proofs.places.add_places.Given as goal

-- the places so far and those of the batches that are left are all of them
abbrev pub invariant-loop-at : goal.invariant-loop-at
invariant-loop-at l = l.places.items ++ places_from l.client l.at (drop l.at l.list) ≡ l.fn.places.items ++ places_from l.client 0 l.list
