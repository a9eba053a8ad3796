-- One more operation, or the end of them.
use Rattle.std.proofs.Common.{length, arith, ◌∙◌, ◌≤◌, ◌<◌, ap, sym, eqb-true}
use Rattle.std.specs.Int.{from_bool}
use Rattle.batch_operations.specs.Operations.{is_counted}
use Rattle.batch_operations.specs.View.{operation_of}
use Rattle.list_log.proofs.Bodies.{plus_one, at_most_one, shorter}
use Rattle.log_salvage.proofs.Judging.{goes_none, goes_more, fault_some, fault_at_end}
use Rattle.log_salvage.proofs.keeping.fault_of.Goals as goal

pub loop-rest-init : goal.loop-rest-init
loop-rest-init c = record { goes = goes_none c.args.body.now; few = omega arith }

pub loop-rest-preserved : goal.loop-rest-preserved
loop-rest-preserved c =
    let old = c.loop-rest.invariant in
    let o = operation_of c.in-Ok.operation in
    let rest = c.loop-rest.rest.now in
    let behind = c.in-Ok.behind.now in
    let plus = plus_one (is_counted o) c.from-found.result (c.from-found.ensures ∙ ap from_bool c.is_counted.ensures) in
    let less : length behind < length rest = shorter o rest behind c.in-Ok.ensures.spelled in
    let one : c.from-found.result ≤ 1 = at_most_one (is_counted o) c.from-found.result plus in
    record {
      goes = goes_more c.args.body.now rest behind c.loop-rest.found c.from-found.result o old.goes c.in-Ok.ensures.spelled c.in-Ok.ensures.is plus;
      few = omega (arith, old.few, less, one);
    }

pub loop-rest-smaller : goal.loop-rest-smaller
loop-rest-smaller c = shorter (operation_of c.in-Ok.operation) c.loop-rest.rest.now c.in-Ok.behind.now c.in-Ok.ensures.spelled

pub returns-in-Err : goal.returns-in-Err
returns-in-Err c = fault_some c.args.said c.args.body.now c.loop-rest.rest.now c.loop-rest.found c.in-Err.error c.loop-rest.invariant.goes c.in-Err.ensures.err

pub returns : goal.returns
returns c =
    fault_at_end c.args.said c.args.body.now c.loop-rest.rest.now c.loop-rest.found c.count_fault.result c.loop-rest.invariant.goes (eqb-true _ _ (sym c.is_empty.ensures ∙ c.loop-rest-test.false)) c.count_fault.ensures
