use Rattle.std.proofs.Common.{◌≡◌, take}
use Rattle.log_in_memory.proofs.recovery_pairs.RecoveryPairs.to_map.Given as goal

-- the map has the pairs so far
abbrev pub invariant-loop-pair : goal.invariant-loop-pair
invariant-loop-pair l = l.map ≡ take l.pair-index l.self.pairs.items
