use Rattle.std.proofs.Common.{◌≡◌, ◌-◌, ◌^◌, min, sum, take}
use Rattle.log_writer.proofs.set.LogSet.len.Given as goal

-- the lengths so far are added
abbrev pub invariant-loop-more : goal.invariant-loop-more
invariant-loop-more g l = l.len ≡ min (sum (take l.more-index l.self.lens.items)) (2 ^ 64 - 1)
