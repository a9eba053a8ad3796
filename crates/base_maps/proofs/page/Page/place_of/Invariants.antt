use Rattle.std.proofs.Common.{length}
use Rattle.base_maps.specs.Cuts.{AreBelow}
use Rattle.base_maps.proofs.PageSteps.{Walked}
use Rattle.base_maps.proofs.page.Page.place_of.Given as goal

-- the pairs before the rest are below the key
abbrev pub invariant-loop-own : goal.invariant-loop-own
invariant-loop-own l = Walked (AreBelow l.key) l.self l.bytes l.rest

abbrev pub decreases-loop-own : goal.decreases-loop-own
decreases-loop-own l = length l.rest
