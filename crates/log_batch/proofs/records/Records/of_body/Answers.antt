-- Each record has at least one byte, so there are fewer than 2 ^ 64 records.
use Rattle.std.proofs.Common.{◌≡◌, length, ap, arith}
use Rattle.log_batch.specs.Body.{IsBody}
use Rattle.log_batch.specs.OneBody.{same_records}
use Rattle.log_batch.proofs.Additions.{few_records}
use Rattle.log_batch.proofs.records.Records.of_body.Goals as goal

pub returns-clause-bound : goal.returns-clause-bound
returns-clause-bound c =
    let are : (h : IsBody c.args.bytes.now) → h.records ≡ c.requires.records = λ h. same_records c.args.bytes.now h c.requires in
    rw are (omega (arith, few_records c.requires.records, ap length c.requires.spelled))
