use Rattle.std.proofs.Common.{◌≡◌, ◌*◌, ◌^◌, ◌≤◌, take}
use Rattle.program_text.proofs.Summaries.{shown_count}
use Rattle.program_text.proofs.summary.record_count.Given as goal

-- the batches so far are counted, each below 2^32
abbrev pub invariant-loop-at : goal.invariant-loop-at
invariant-loop-at l = (l.count ≡ shown_count (take l.at l.history)) × (l.count ≤ l.at * 2 ^ 32)
