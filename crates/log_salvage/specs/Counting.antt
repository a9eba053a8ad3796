-- How much was kept, and how much wasn't.
use Rattle.std.specs.Prelude.{ℕ, ◌+◌, ◌-◌, List, [], ◌∷◌, Option, Some, None}
use Rattle.log_scan.specs.Scanning.{Item, whole, unread}
use Rattle.log_scan.specs.declared.scanner.Unread.{Unread}
use Rattle.list_log.specs.Totals.{at_most}
use Rattle.log_salvage.specs.Keeping.{HasVerdict}
use Rattle.log_salvage.specs.declared.counts.Counts.{Counts}
use Rattle.log_salvage.specs.declared.keeping.LeftOut.{LeftOut}
use Rattle.log_salvage.specs.declared.keeping.Range.{Range}
use Rattle.log_salvage.specs.declared.salvaging.Step.{Step}
use Rattle.log_salvage.specs.declared.salvaging.Step.TheVariants as step

abbrev pub nothing : Counts
nothing = record { kept = 0; left_out = 0; stretches = 0; bytes = 0 }

-- one more record, which was kept or left out
abbrev pub with_verdict : Option LeftOut → Counts → Counts
with_verdict None c = record c { kept = at_most (c.kept + 1) }
with_verdict (Some why) c = record c { left_out = at_most (c.left_out + 1) }

-- one more stretch in which no record reads
abbrev pub with_stretch : Unread → Counts → Counts
with_stretch u c = record c { stretches = at_most (c.stretches + 1); bytes = at_most (c.bytes + (u.to - u.from)) }

-- the same, if there is a stretch
abbrev pub with_unread : Option Unread → Counts → Counts
with_unread None c = c
with_unread (Some u) c = with_stretch u c

-- what a step found is counted
abbrev pub with_step : Step → Counts → Counts
with_step (step.Record stretch start end left_out) c = with_verdict left_out (with_unread stretch c)
with_step other c = c

-- These are the counts of items, after those that were counted before.
pub data AreCounts (range : Range) : Counts → List Item → Counts → Type 0 where
  no_counts : {c : Counts} → AreCounts range c [] c
  with_record : {c after : Counts} {start end : ℕ} {bytes : List ℕ} {items : List Item} {left_out : Option LeftOut}
      → HasVerdict range bytes left_out → AreCounts range (with_verdict left_out c) items after
      → AreCounts range c (whole start end bytes ∷ items) after
  with_skipped : {c after : Counts} {u : Unread} {items : List Item}
      → AreCounts range (with_stretch u c) items after → AreCounts range c (unread u ∷ items) after
