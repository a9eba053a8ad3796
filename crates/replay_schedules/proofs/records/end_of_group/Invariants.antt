use Rattle.std.proofs.Common.{◌≡◌, ◌≤◌, length, take}
use Rattle.replay_schedules.specs.Records.{logged_in}
use Rattle.replay_schedules.proofs.records.end_of_group.Given as goal

-- so many of the entries so far are logged as were found
abbrev pub invariant-loop-entry : goal.invariant-loop-entry
invariant-loop-entry l = record {
  end_is : l.end ≡ l.entry-index;
  found_are : length (logged_in (take l.entry-index l.entries)) ≡ l.found;
  few : l.found ≤ l.count;
}
