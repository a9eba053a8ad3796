use Rattle.std.proofs.Common.{◌≡◌, ◌++◌, map}
use Rattle.base_bytes.specs.declared.answers.Place.{Place}
use Rattle.model_base.specs.Map.{key_at}
use Rattle.run_command_list.proofs.keys.Keys.copies.Given as goal

-- the copies so far and the keys that are left are all keys
abbrev pub invariant-loop-family : goal.invariant-loop-family
invariant-loop-family l = map (λ (p : Place). key_at p.family p.key) l.copies.items ++ l.family-iterator ≡ l.fn.self
