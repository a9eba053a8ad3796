use Rattle.std.proofs.Common.{◌-◌, ◌≤◌}
use Rattle.run_command_list.proofs.Steps.{Walked}
use Rattle.run_command_list.proofs.keys.Keys.split.Given as goal

-- the bytes are `found` keys, and then the rest
abbrev pub invariant-loop-found : goal.invariant-loop-found
invariant-loop-found l = record {
  walked : Walked l.bytes l.rest l.found;
  few : l.found ≤ l.count;
}

abbrev pub decreases-loop-found : goal.decreases-loop-found
decreases-loop-found l = l.count - l.found
