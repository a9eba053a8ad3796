use Rattle.std.proofs.Common.{ℕ, Option, ap, ◌∙◌}
use Rattle.std.specs.Option.{unwrap_or}
use Rattle.log_batch.specs.View.{record_of}
use Rattle.log_batch.proofs.Greatest.{greatest_one}
use Rattle.log_batch.proofs.record_view.greatest_of.Goals as goal

pub returns : goal.returns
returns c = c.unwrap_or.ensures ∙ (ap (λ (o : Option ℕ). unwrap_or o 0) c.key_family.ensures ∙ greatest_one (record_of c.args.view))
