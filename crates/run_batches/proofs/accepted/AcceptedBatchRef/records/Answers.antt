use Rattle.std.proofs.Common.{◌≡◌, ap, ◌∙◌}
use Rattle.std.specs.Prelude.{Result, Ok, Err}
use Rattle.log_batch.specs.Contents.{Contents}
use Rattle.run_batches.proofs.accepted.AcceptedBatchRef.records.Goals as goal

no_error : {T E : Type 0} (e : E) (x : T) → ◌≡◌ {A = Result T E} (Err e) (Ok x) → ⊥
no_error e x same = cc

same_ok : {T E : Type 0} (x y : T) → ◌≡◌ {A = Result T E} (Ok x) (Ok y) → x ≡ y
same_ok x y same = cc

pub unreachable-requires : goal.unreachable-requires
unreachable-requires c =
    let b = c.self.inside.holds in
    no_error c.in-Err.field-0 b.contents (c.in-Err.ensures.reads b.contents.sequence b.contents.records b.is)

pub returns-clause-value : goal.returns-clause-value
returns-clause-value c =
    let b = c.self.inside.holds in
    let view : c.in-Ok.view ≡ b.contents = same_ok c.in-Ok.view b.contents (c.in-Ok.ensures.reads b.contents.sequence b.contents.records b.is) in
    c.records.ensures.value ∙ ap (λ (v : Contents). v.records) (view ∙ c.self.view_is)
