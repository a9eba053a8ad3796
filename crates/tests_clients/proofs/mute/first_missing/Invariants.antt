-- the families of the places before those that are left are there
use Rattle.std.proofs.Common.{◌≡◌, map, drop}
use Rattle.base_bytes.specs.declared.answers.Place.{Place}
use Rattle.model_base.specs.Progress.{first_missing}
use Rattle.tests_clients.proofs.mute.first_missing.Given as goal

abbrev pub invariant-loop-place : goal.invariant-loop-place
invariant-loop-place l = first_missing l.families (map (λ (p : Place). p.family) l.places) ≡ first_missing l.families (map (λ (p : Place). p.family) (drop l.place-index l.places))
