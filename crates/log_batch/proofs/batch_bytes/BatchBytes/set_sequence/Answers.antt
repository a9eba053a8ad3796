use Rattle.std.proofs.Common.{◌≡◌, List, ◌++◌, ◌∙◌, ap}
use Rattle.model_base.specs.Batch.{Record, header, body}
use Rattle.log_batch.specs.Contents.{Contents, IsBatch}
use Rattle.log_batch.proofs.Additions.{records_are, sequence_set}
use Rattle.log_batch.proofs.batch_bytes.BatchBytes.set_sequence.Goals as goal

pub returns : goal.returns
returns c =
    let old = c.self.inside in
    let with : List Record → Contents = λ r. record { sequence = c.args.sequence; records = r } in
    let written : c.overwrite.new.self ≡ header c.args.sequence old.count ++ body old.holds.records =
    (rw c.to_le_bytes.ensures at c.overwrite.ensures) ∙ sequence_set old.bytes old.sequence c.args.sequence old.count (body old.holds.records) old.holds.bytes_are in
    let are : (h : IsBatch c.overwrite.new.self c.args.sequence old.count) → h.records ≡ old.holds.records =
    λ h. records_are c.overwrite.new.self c.args.sequence old.count h old.holds.records old.holds.readable old.holds.count_is written in
    rw are (ap with (ap (λ (v : Contents). v.records) c.self.view_is))
