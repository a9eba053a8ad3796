-- the places are those of the keys so far
use Rattle.std.proofs.Common.{◌≡◌, ℕ, List, map, take}
use Rattle.base_bytes.specs.declared.answers.Place.{Place}
use Rattle.engine_groups.proofs.reading.default_places.Given as goal

abbrev place_of : List ℕ → Place
place_of key = record { family = 0; key = key }

abbrev pub invariant-loop-key : goal.invariant-loop-key
invariant-loop-key l = l.places.items ≡ map place_of (take l.key-index l.keys)
