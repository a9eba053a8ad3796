use Rattle.std.proofs.Common.{◌≡◌, length, ap, arith}
use Rattle.log_batch.specs.Body.{IsBody}
use Rattle.log_batch.specs.OneBody.{same_records}
use Rattle.log_batch.proofs.Additions.{few_records}
use Rattle.log_batch.proofs.records.Records.again.Goals as goal

pub returns-clause-same : goal.returns-clause-same
returns-clause-same c =
    let old = c.self.inside in
    let are : (h : IsBody old.rest.now) → h.records ≡ old.holds.records = λ h. same_records old.rest.now h old.holds in
    rw are c.self.view_is

pub returns-clause-bound : goal.returns-clause-bound
returns-clause-bound c =
    let old = c.self.inside in
    let are : (h : IsBody old.rest.now) → h.records ≡ old.holds.records = λ h. same_records old.rest.now h old.holds in
    rw are (omega (arith, few_records old.holds.records, ap length old.holds.spelled))
