use Rattle.batch_operations.specs.View.{operation_of}
use Rattle.list_log.proofs.Counted.{counted_more, counts_some}
use Rattle.list_log.proofs.totals.Totals.add_operations.Goals as goal

pub returns-in_default : goal.returns-in_default
returns-in_default c =
    counts_some c.args.settings.now c.args.body.now c.loop-rest.rest.now c.args.self.now c.loop-rest.self c.loop-rest.any c.in_default.field-0 c.loop-rest.invariant c.in_default.ensures.err

pub loop-rest-preserved : goal.loop-rest-preserved
loop-rest-preserved c =
    counted_more c.args.settings.now c.args.body.now c.loop-rest.rest.now c.in-Ok.behind.now c.args.self.now c.loop-rest.self c.add_if_wanted.new.self c.loop-rest.any c.in_ok-any.any (operation_of c.in-Ok.operation)
    c.loop-rest.invariant c.in-Ok.ensures.spelled c.in-Ok.ensures.is c.in_ok-any.ensures.any c.in_ok-any.ensures.counted
