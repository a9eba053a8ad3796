use Rattle.std.proofs.Common.{ap, ◌∙◌, length, arith}
use Rattle.model_base.specs.Batch.{count_of}
use Rattle.log_batch.specs.Contents.{Contents}
use Rattle.run_batches.proofs.Additions.{count_read}
use Rattle.run_batches.proofs.accepted.AcceptedBatchRef.count.Goals as goal

pub get_fixed32-requires : goal.get_fixed32-requires
get_fixed32-requires c = omega (arith, ap length c.self.inside.holds.is.spelled)

pub returns : goal.returns
returns c =
    let b = c.self.inside in
    c.get_fixed32.ensures.value ∙ count_read b.bytes.now b.holds.contents b.holds.is ∙ ap (λ (v : Contents). count_of v.records) c.self.view_is
