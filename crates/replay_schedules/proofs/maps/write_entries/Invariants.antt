use Rattle.std.proofs.Common.{◌≡◌, take}
use Rattle.replay_core.specs.Shown.{plans_in}
use Rattle.replay_schedules.specs.Maps.{after_entries}
use Rattle.replay_schedules.proofs.maps.write_entries.Given as goal

-- the entries so far are written
abbrev pub invariant-loop-entry : goal.invariant-loop-entry
invariant-loop-entry l = l.map ≡ after_entries (plans_in l.state) l.initial.map (take l.entry-index l.entries)
