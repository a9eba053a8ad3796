use Rattle.std.proofs.Common.{◌∙◌}
use Rattle.run_generator.proofs.Drawn.{batches_go_on}
use Rattle.run_generator.proofs.batches.batches_of.Goals as goal

pub loop-left-preserved : goal.loop-left-preserved
loop-left-preserved c =
    let drawn = c.in_ok-add_batch.ensures in
    batches_go_on c.loop-left.left c.args.client c.loop-left.draws.state c.add_batch.new.draws.state c.loop-left.commands c.add_batch.new.commands c.loop-left-test.true drawn.batch drawn.state
    ∙ c.loop-left.invariant
