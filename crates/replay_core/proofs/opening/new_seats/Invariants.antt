use Rattle.std.proofs.Common.{◌≡◌, take, vec_len}
use Rattle.std.specs.List.{AllZip}
use Rattle.replay_core.specs.Fresh.{IsFresh}
use Rattle.replay_core.proofs.opening.new_seats.Given as goal

abbrev pub invariant-loop-plan : goal.invariant-loop-plan
invariant-loop-plan l = AllZip IsFresh (take l.plan-index l.plans) l.seats.items × (vec_len l.seats ≡ l.plan-index)
