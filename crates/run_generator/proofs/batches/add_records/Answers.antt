use Rattle.std.proofs.Common.{◌∙◌}
use Rattle.run_generator.proofs.Drawn.{records_go_on, records_end_at}
use Rattle.run_generator.proofs.batches.add_records.Goals as goal

pub loop-left-preserved : goal.loop-left-preserved
loop-left-preserved c =
    let some = c.loop-left-test.true in
    let drawn = c.in_ok-add_record.ensures in
    let before = c.loop-left.draws.state in
    let after = c.add_record.new.draws.state in
    record {
      goes_on = records_go_on c.loop-left.left c.args.client before after c.loop-left.commands c.add_record.new.commands some drawn.«record» drawn.state ∙ c.loop-left.invariant.goes_on;
      ends_at = records_end_at c.loop-left.left c.args.client before after some drawn.state ∙ c.loop-left.invariant.ends_at;
    }
