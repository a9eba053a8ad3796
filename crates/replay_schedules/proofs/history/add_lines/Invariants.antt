use Rattle.std.proofs.Common.{◌≡◌, take}
use Rattle.log_batch.specs.Contents.{with_additions}
use Rattle.replay_schedules.specs.Maps.{records_added}
use Rattle.replay_schedules.proofs.history.add_lines.Given as goal

-- the batch has what the lines so far add
abbrev pub invariant-loop-line : goal.invariant-loop-line
invariant-loop-line l = l.batch ≡ with_additions l.initial.batch (records_added (take l.line-index l.lines))
