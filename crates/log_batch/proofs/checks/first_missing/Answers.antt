use Rattle.std.proofs.Common.{List, ap, sym, ◌∙◌}
use Rattle.model_base.specs.Batch.{Record}
use Rattle.model_base.specs.Progress.{families_in, first_missing}
use Rattle.log_batch.specs.View.{record_of}
use Rattle.log_batch.proofs.Greatest.{skips_record}
use Rattle.log_batch.proofs.checks.first_missing.Goals as goal

pub loop-view-preserved : goal.loop-view-preserved
loop-view-preserved c =
    c.loop-view.invariant
    ∙ (ap (λ (l : List Record). first_missing c.args.families (families_in l)) c.in-Some.ensures.steps
    ∙ skips_record c.args.families (record_of c.in-Some.view) c.next.new.self (sym c.in_default.ensures))
