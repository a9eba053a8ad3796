use Rattle.std.proofs.Common.{◌≡◌, [], refl}
use Rattle.log_batch.specs.Contents.{IsBatch}
use Rattle.log_batch.proofs.Additions.{records_are}
use Rattle.log_batch.proofs.batch_bytes.BatchBytes.new.Goals as goal

pub returns : goal.returns
returns c =
    let are : (h : IsBatch c.in_ok-copy.field-0 0 0) → h.records ≡ [] = λ h. records_are c.in_ok-copy.field-0 0 0 h [] tt refl (c.in_ok-copy.ensures {u = tt}) in
    rw are refl
