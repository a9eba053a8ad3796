use Rattle.std.proofs.Common.{List, max, ap, sym, ◌∙◌}
use Rattle.model_base.specs.Batch.{Record}
use Rattle.log_batch.specs.Contents.{greatest_named}
use Rattle.log_batch.specs.View.{record_of}
use Rattle.log_batch.proofs.Greatest.{next_greatest}
use Rattle.log_batch.proofs.records.greatest_in.Goals as goal

pub loop-view-preserved : goal.loop-view-preserved
loop-view-preserved c =
    let entry = record_of c.in-Some.view in
    let left = c.next.new.self in
    let before = c.loop-view.greatest in
    ap (λ n. max n (greatest_named left)) (c.max-greatest.ensures ∙ ap (max before) c.greatest_of.ensures)
    ∙ (sym (next_greatest before entry left)
    ∙ (ap (λ (l : List Record). max before (greatest_named l)) (sym c.in-Some.ensures.steps) ∙ c.loop-view.invariant))
