use Rattle.std.proofs.Common.{◌≡◌, [], ◌++◌, drop, refl}
use Rattle.model_base.specs.Batch.{header, body}
use Rattle.log_batch.specs.Contents.{IsBatch}
use Rattle.log_batch.proofs.Additions.{records_are, cut}
use Rattle.log_batch.proofs.batch_bytes.BatchBytes.clear.Goals as goal

pub returns : goal.returns
returns c =
    let old = c.self.inside in
    let none_left : drop 12 c.truncate.new.self ≡ [] = rw c.truncate.ensures (cut old.bytes old.sequence old.count (body old.holds.records) old.holds.bytes_are) in
    let zeros : c.overwrite.new.self ≡ header 0 0 ++ body [] = rw none_left at c.overwrite.ensures in
    let are : (h : IsBatch c.overwrite.new.self 0 0) → h.records ≡ [] = λ h. records_are c.overwrite.new.self 0 0 h [] tt refl zeros in
    rw are refl
