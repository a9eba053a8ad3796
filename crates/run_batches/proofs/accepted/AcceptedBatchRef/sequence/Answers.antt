use Rattle.std.proofs.Common.{ap, ◌∙◌, length, arith}
use Rattle.log_batch.specs.Contents.{Contents}
use Rattle.run_batches.specs.OneBatch.{sequence_read}
use Rattle.run_batches.proofs.accepted.AcceptedBatchRef.sequence.Goals as goal

pub get_fixed64-requires : goal.get_fixed64-requires
get_fixed64-requires c = omega (arith, ap length c.self.inside.holds.is.spelled)

pub returns : goal.returns
returns c =
    let b = c.self.inside in
    c.get_fixed64.ensures.value ∙ sequence_read b.bytes.now b.holds.contents b.holds.is ∙ ap (λ (v : Contents). v.sequence) c.self.view_is
