use Rattle.std.proofs.Common.{◌≡◌, map}
use Rattle.model_base.specs.declared.key.Key.{Key}
use Rattle.model_base.specs.Progress.{first_missing}
use Rattle.run_command_list.proofs.keys.Keys.missing_family.Given as goal

-- the families of the keys before those that are left are below the number
abbrev pub invariant-loop-family : goal.invariant-loop-family
invariant-loop-family l = first_missing l.families (map (λ (k : Key). k.family) l.family-iterator) ≡ first_missing l.families (map (λ (k : Key). k.family) l.self)
