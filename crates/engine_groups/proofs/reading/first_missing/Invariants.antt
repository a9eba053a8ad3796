-- the answer is that for the places that are left
use Rattle.std.proofs.Common.{◌≡◌, map, drop}
use Rattle.base_bytes.specs.declared.answers.Place.{Place}
use Rattle.model_base.specs.Progress.{first_missing}
use Rattle.engine_groups.proofs.reading.first_missing.Given as goal

abbrev pub invariant-loop-place : goal.invariant-loop-place
invariant-loop-place l = first_missing l.families (map (λ (p : Place). p.family) l.places) ≡ first_missing l.families (map (λ (p : Place). p.family) (drop l.place-index l.places))
