use Rattle.std.proofs.Common.{sym, ◌∙◌, arith}
use Rattle.log_batch.proofs.OneAnswer.{from_place}
use Rattle.log_batch.proofs.OneRecord.{no_record_error}
use Rattle.wolzenn_c.proofs.Places.{next_is, error_from}
use Rattle.wolzenn_c.proofs.batch_bytes.wz_batch_next.Goals as goal

pub returns-in-Ok-clause-done : goal.returns-in-Ok-clause-done
returns-in-Ok-clause-done c = λ _. next_is c.args.bytes.now c.args.at.now _ c.in-Ok.rest.now c.op_of.result (omega arith) c.in-Ok.ensures.readable c.in-Ok.ensures.spelled c.op_of.ensures

pub returns-in-Ok-clause-refuses : goal.returns-in-Ok-clause-refuses
returns-in-Ok-clause-refuses c = λ error wrong.
    absurd (no_record_error _ c.in-Ok.rest.now _ error c.in-Ok.ensures.readable (sym (from_place c.args.at.now c.args.bytes.now) ∙ c.in-Ok.ensures.spelled) wrong)

pub returns-in-Err-clause-reads : goal.returns-in-Err-clause-reads
returns-in-Err-clause-reads c = λ found rest readable is.
    absurd (no_record_error _ rest found c.in-Err.error readable is (error_from c.args.bytes.now c.args.at.now _ c.in-Err.ensures.err))
