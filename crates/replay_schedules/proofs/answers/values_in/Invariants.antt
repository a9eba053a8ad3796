use Rattle.std.proofs.Common.{◌≡◌, ◌++◌, map}
use Rattle.model_base.specs.Map.{value_at}
use Rattle.replay_schedules.proofs.answers.values_in.Given as goal

-- the values so far, with those of the keys that are left, are the values of all keys
abbrev pub invariant-loop-family : goal.invariant-loop-family
invariant-loop-family l = l.values ++ map (value_at l.pairs) l.family-iterator ≡ map (value_at l.pairs) l.fn.keys
