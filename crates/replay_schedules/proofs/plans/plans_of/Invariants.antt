use Rattle.std.proofs.Common.{◌≡◌, take}
use Rattle.replay_schedules.proofs.plans.plans_of.Given as goal

-- the plans so far are the commands of the clients so far
abbrev pub invariant-loop-commands : goal.invariant-loop-commands
invariant-loop-commands l = l.plans.items ≡ take l.commands-index l.script.clients.items
