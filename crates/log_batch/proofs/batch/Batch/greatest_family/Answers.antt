use Rattle.std.proofs.Common.{ap, ◌∙◌}
use Rattle.log_batch.specs.Contents.{Contents, greatest_named}
use Rattle.log_batch.proofs.batch.Batch.greatest_family.Goals as goal

pub returns : goal.returns
returns c = c.self.invariant ∙ ap (λ (x : Contents). greatest_named x.records) c.self.view_is
