use Rattle.std.proofs.Common.{length}
use Rattle.base_maps.proofs.PageSteps.{Walked, AreSome}
use Rattle.base_maps.proofs.page.Page.cut_at.Given as goal

-- at least one pair is before the rest
abbrev pub invariant-loop-after : goal.invariant-loop-after
invariant-loop-after l = Walked AreSome l.self l.bytes l.rest

abbrev pub decreases-loop-after : goal.decreases-loop-after
decreases-loop-after l = length l.rest
