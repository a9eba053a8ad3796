use Rattle.std.proofs.Common.{◌≡◌, ◌++◌}
use Rattle.log_in_memory.proofs.recovery_pairs.pairs_of.Given as goal

-- the pairs so far, and after them those that are left, are all pairs of the map
abbrev pub invariant-loop-family : goal.invariant-loop-family
invariant-loop-family l = l.pairs.items ++ l.family-iterator ≡ l.map
