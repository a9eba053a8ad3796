-- How many events of a list came.
use Rattle.std.specs.Prelude.{◌+◌, Bool, true, false}
use Rattle.replay_core.specs.declared.step.Counts.{Counts}

-- the counts after one more event, which came or not
abbrev pub counts_after_event : Bool → Counts → Counts
counts_after_event true counts = record counts { taken = counts.taken + 1 }
counts_after_event false counts = record counts { skipped = counts.skipped + 1 }
