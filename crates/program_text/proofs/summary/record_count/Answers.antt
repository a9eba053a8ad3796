use Rattle.std.proofs.Common.{arith}
use Rattle.program_text.proofs.Summaries.{count_more}
use Rattle.program_text.proofs.summary.record_count.Goals as goal

pub loop-at-preserved : goal.loop-at-preserved
loop-at-preserved c =
    let more = count_more c.args.history.now c.loop-at.at c.entry.result c.entry.ensures in
    (omega (arith, more), omega (arith, more))
