use Rattle.std.proofs.Common.{◌≡◌, ◌⊎◌, ◌<◌, Contains, take}
use Rattle.std.specs.List.{AllByRecursion}
use Rattle.log_updates.specs.Places.{first_place}
use Rattle.log_updates.proofs.Nearest.{IsNoLater}
use Rattle.log_updates.proofs.places.ReadPlaces.nearest.Given as goal

-- The nearest place is one of those so far that are before `since`, and none of them is after it; or it is the start.
abbrev pub invariant-loop-place : goal.invariant-loop-place
invariant-loop-place l = record {
  one_of : (l.nearest ≡ first_place) ⊎ (Contains l.place-items l.nearest × (l.nearest.last < l.since));
  last : AllByRecursion (IsNoLater l.since l.nearest.last) (take l.place-index l.place-items);
}
