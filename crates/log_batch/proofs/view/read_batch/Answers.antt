use Rattle.std.proofs.Common.{◌≢◌, sym, ◌∙◌}
use Rattle.std.proofs.lemmas.Result.{err_from_is_err_and}
use Rattle.model_base.specs.declared.batch.BatchError.TheVariants.{Count}
use Rattle.model_base.specs.Batch.{count_of, IsBatch, IsBatchError, no_header, no_record, wrong_count}
use Rattle.log_batch.proofs.OneAnswer.{from_place, is_batch, one_batch, no_batch_error, one_batch_error}
use Rattle.log_batch.proofs.view.read_batch.Goals as goal

pub returns-then-bytes-lt-HEADER_LEN-clause-err : goal.returns-then-bytes-lt-HEADER_LEN-clause-err
returns-then-bytes-lt-HEADER_LEN-clause-err c = no_header c.if-bytes-lt-HEADER_LEN.true

-- the bytes break off with the error that `read_batch` passes on
breaks_off : (c : goal.After-from_residual) → IsBatchError c.args.bytes.now c.in_err-records.field-0.0
breaks_off c =
    let broken = c.in_err-records.ensures.err in
    no_record broken.0 broken.1 c.if-bytes-lt-HEADER_LEN.false broken.2 (sym (from_place 12 c.args.bytes.now) ∙ broken.3) broken.4

pub returns-in_err-records-clause-err : goal.returns-in_err-records-clause-err
returns-in_err-records-clause-err c =
    let exit = err_from_is_err_and c.from_residual.result c.from_residual.ensures.1 in
    rw (exit.1, exit.2) (breaks_off c)

pub returns-in_err-records-clause-reads : goal.returns-in_err-records-clause-reads
returns-in_err-records-clause-reads c = λ sequence records is. absurd (no_batch_error c.args.bytes.now sequence records c.in_err-records.field-0.0 is (breaks_off c))

pub returns-in_err-records-clause-refuses : goal.returns-in_err-records-clause-refuses
returns-in_err-records-clause-refuses c = λ e wrong.
    let exit = err_from_is_err_and c.from_residual.result c.from_residual.ensures.1 in
    rw (exit.1, exit.2, one_batch_error c.args.bytes.now c.in_err-records.field-0.0 e (breaks_off c) wrong)

-- the count isn't the one that the header says
miscounted : (c : goal.Then-found-from) → IsBatchError c.args.bytes.now (Count c.get_fixed32-said.result c.in_ok-records.found)
miscounted c =
    let bytes = c.args.bytes.now in
    let read = c.in_ok-records.ensures in
    let other : c.get_fixed32-said.result ≢ count_of c.in_ok-records.records = λ e. c.if-found-from.true (read.counted ∙ sym e ∙ sym c.from.ensures) in
    rw read.counted (wrong_count c.in_ok-records.records c.if-bytes-lt-HEADER_LEN.false read.readable (sym (from_place 12 bytes) ∙ read.spelled) c.get_fixed32-said.ensures.value other)

pub returns-then-found-from-clause-err : goal.returns-then-found-from-clause-err
returns-then-found-from-clause-err c = miscounted c

pub returns-then-found-from-clause-reads : goal.returns-then-found-from-clause-reads
returns-then-found-from-clause-reads c = λ sequence records is. absurd (no_batch_error c.args.bytes.now sequence records _ is (miscounted c))

pub returns-then-found-from-clause-refuses : goal.returns-then-found-from-clause-refuses
returns-then-found-from-clause-refuses c = λ e wrong. rw (one_batch_error c.args.bytes.now _ e (miscounted c) wrong)

-- the bytes are a batch
read : (c : goal.After-result-1) → IsBatch c.args.bytes.now c.get_fixed64-sequence.result c.in_ok-records.records
read c =
    let records = c.in_ok-records.ensures in
    is_batch c.args.bytes.now c.get_fixed64-sequence.result c.get_fixed32-said.result c.in_ok-records.records c.get_fixed64-sequence.ensures.spelled c.get_fixed32-said.ensures.spelled
    (sym (from_place 12 c.args.bytes.now) ∙ records.spelled) records.readable (sym c.from.ensures ∙ sym c.if-found-from.false ∙ records.counted) c.get_fixed64-sequence.type_inv c.get_fixed32-said.type_inv

pub returns-clause-ok : goal.returns-clause-ok
returns-clause-ok c = read c

pub returns-clause-reads : goal.returns-clause-reads
returns-clause-reads c = λ sequence records is.
    let same = one_batch c.args.bytes.now c.get_fixed64-sequence.result sequence c.in_ok-records.records records (read c) is in
    rw (same.0, same.1)

pub returns-clause-refuses : goal.returns-clause-refuses
returns-clause-refuses c = λ e wrong. absurd (no_batch_error c.args.bytes.now c.get_fixed64-sequence.result c.in_ok-records.records e (read c) wrong)
