use Rattle.std.proofs.Common.{◌≡◌}
use Rattle.log_batch.specs.Body.{IsBody}
use Rattle.log_batch.specs.OneBody.{same_records}
use Rattle.log_batch.proofs.records.records_of.Goals as goal

pub returns-clause-counted : goal.returns-clause-counted
returns-clause-counted c =
    let walked = c.in_ok-found.ensures.ok in
    let are : (h : IsBody c.args.bytes.now) → h.records ≡ walked.0.records = λ h. same_records c.args.bytes.now h walked.0 in
    rw are walked.1
