use Rattle.std.proofs.Common.{max, ap, sym, ◌∙◌, [], ◌∷◌}
use Rattle.log_batch.specs.Contents.{Contents, greatest_named}
use Rattle.log_batch.specs.View.{record_of}
use Rattle.log_batch.proofs.Greatest.{greatest_appended}
use Rattle.log_batch.proofs.batch.Batch.add.Goals as goal

pub invariant_of-self : goal.invariant_of-self
invariant_of-self c =
    let old = c.self.inside.parts.records in
    let r = record_of c.args.view in
    c.max-greatest.ensures
    ∙ (ap (λ n. max n c.greatest_of.result) c.self.invariant
    ∙ (ap (max (greatest_named old)) c.greatest_of.ensures ∙ (sym (greatest_appended old (r ∷ [])) ∙ ap (λ (x : Contents). greatest_named x.records) (sym c.in-Ok.ensures.ok))))
