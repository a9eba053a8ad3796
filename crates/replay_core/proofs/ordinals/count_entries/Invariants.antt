use Rattle.std.proofs.Common.{◌+◌, ◌<◌, ◌^◌, ◌++◌, List, length, take}
use Rattle.replay_core.specs.Shown.{CoreEntry}
use Rattle.replay_core.specs.Ordinals.{AreCounts}
use Rattle.replay_core.proofs.ordinals.count_entries.Given as goal

-- the entries so far are counted
abbrev pub invariant-loop-entry : goal.invariant-loop-entry
invariant-loop-entry l = (front : List CoreEntry) → length front + length l.entries < 2 ^ 64 → AreCounts l.initial.counts front → AreCounts l.counts (front ++ take l.entry-index l.entries)
