use Rattle.std.proofs.Common.{sym, ◌∙◌, arith}
use Rattle.log_batch.proofs.OneAnswer.{from_place}
use Rattle.wolzenn_c.proofs.OneOperation.{no_operation_error}
use Rattle.wolzenn_c.proofs.OperationPlaces.{operation_is, no_operation_from}
use Rattle.wolzenn_c.proofs.operations.wz_operation_next.Goals as goal

pub returns-in-Ok-clause-done : goal.returns-in-Ok-clause-done
returns-in-Ok-clause-done c = λ _. operation_is c.args.bytes.now c.args.at.now _ c.in-Ok.rest.now c.operation_before.result (omega arith) c.in-Ok.ensures.is c.in-Ok.ensures.spelled c.operation_before.ensures

pub returns-in-Ok-clause-refuses : goal.returns-in-Ok-clause-refuses
returns-in-Ok-clause-refuses c = λ error wrong.
    absurd (no_operation_error _ c.in-Ok.rest.now _ error c.in-Ok.ensures.is (sym (from_place c.args.at.now c.args.bytes.now) ∙ c.in-Ok.ensures.spelled) wrong)

pub returns-in-Err-clause-reads : goal.returns-in-Err-clause-reads
returns-in-Err-clause-reads c = λ found rest is spelled.
    absurd (no_operation_error _ rest found c.in-Err.error is spelled (no_operation_from c.args.bytes.now c.args.at.now _ c.in-Err.ensures.err))
