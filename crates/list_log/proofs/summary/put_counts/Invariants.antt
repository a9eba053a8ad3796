use Rattle.std.proofs.Common.{◌≡◌, ◌++◌, take}
use Rattle.list_log.specs.Totals.{count_lines}
use Rattle.list_log.proofs.summary.put_counts.Given as goal

-- the lines of the counts so far are appended to the text
abbrev pub invariant-loop-tally : goal.invariant-loop-tally
invariant-loop-tally l = l.text ≡ l.initial.text ++ count_lines l.form (take l.tally-index l.tallies)
