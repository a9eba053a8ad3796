use Rattle.std.proofs.Common.{max, ap, sym, ◌∙◌}
use Rattle.log_batch.specs.Contents.{Contents, greatest_named}
use Rattle.log_batch.proofs.Greatest.{greatest_appended}
use Rattle.log_batch.proofs.batch.Batch.append.Goals as goal

pub invariant_of-self : goal.invariant_of-self
invariant_of-self c =
    let old = c.self.inside.parts.records in
    let more = c.args.other.now.records in
    let named = c.greatest_in.ensures ∙ ap greatest_named c.records.ensures.value in
    c.max-greatest.ensures
    ∙ (ap (λ n. max n c.greatest_in.result) c.self.invariant
    ∙ (ap (max (greatest_named old)) named ∙ (sym (greatest_appended old more) ∙ ap (λ (x : Contents). greatest_named x.records) (sym c.in-Ok.ensures.ok))))
