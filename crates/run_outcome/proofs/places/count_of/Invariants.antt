use Rattle.std.proofs.Common.{◌≡◌, ◌-◌, ◌^◌, min, length, take, sum_by}
use Rattle.run_outcome.proofs.places.count_of.Given as goal

-- the batches of the clients so far are counted
abbrev pub invariant-loop-list : goal.invariant-loop-list
invariant-loop-list l = l.count ≡ min (sum_by length (take l.list-index l.lists)) (2 ^ 64 - 1)
