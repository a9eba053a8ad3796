use Rattle.std.proofs.Common.{◌≡◌, ℕ, Option, [], refl, subst, ap, ◌∙◌}
use Rattle.std.specs.Option.{unwrap_or}
use Rattle.model_base.specs.Batch.{tag_of, named_by, family_bytes}
use Rattle.model_base.specs.Map.{family_of}
use Rattle.log_batch.specs.View.{record_of}
use Rattle.log_batch.specs.declared.record_view.RecordView.{RecordView}
use Rattle.wolzenn_c.proofs.Places.{key_alone, key_before, value_behind}
use Rattle.wolzenn_c.proofs.batch_bytes.op_of.Goals as goal

-- the number is the tag of the record, and the family is the one that the record names, or else the default one
abbrev Tells : ℕ → ℕ → RecordView → Type 0
Tells kind family view = (kind ≡ tag_of (record_of view)) × (family ≡ family_of (named_by (record_of view)))

pub returns-in-Value : goal.returns-in-Value
returns-in-Value c =
    let at = subst (Tells c.kind_of-kind.result c.unwrap_or-family.result) c.in-Value.is
    (c.kind_of-kind.ensures, c.unwrap_or-family.ensures ∙ ap (λ (o : Option ℕ). unwrap_or o 0) c.family.ensures) in
    let family = family_bytes c.in-Value.family in
    rw c.in-Value.is (λ front rest end. record {
      kind = at.0;
      family = at.1;
      key = key_before front family c.in-Value.key.now c.in-Value.value.now rest _ c.args.end _ end (rw c.varint32_len.ensures.value refl);
      value = value_behind front family c.in-Value.key.now c.in-Value.value.now rest _ c.args.end _ _ end refl (rw c.varint32_len.ensures.value refl);
    })

pub returns-in-Deletion : goal.returns-in-Deletion
returns-in-Deletion c =
    let at = subst (Tells c.kind_of-kind.result c.unwrap_or-family.result) c.in-Deletion.is
    (c.kind_of-kind.ensures, c.unwrap_or-family.ensures ∙ ap (λ (o : Option ℕ). unwrap_or o 0) c.family.ensures) in
    let told = c.op_of_key.ensures in
    rw c.in-Deletion.is (λ front rest end. record {
      kind = told.kind ∙ at.0;
      family = told.family ∙ at.1;
      key = rw told.key_len (key_alone front (family_bytes c.in-Deletion.family) c.in-Deletion.key.now rest _ c.args.end _ end told.key_at);
      value = told.no_value;
    })

pub returns-in-SingleDeletion : goal.returns-in-SingleDeletion
returns-in-SingleDeletion c =
    let at = subst (Tells c.kind_of-kind.result c.unwrap_or-family.result) c.in-SingleDeletion.is
    (c.kind_of-kind.ensures, c.unwrap_or-family.ensures ∙ ap (λ (o : Option ℕ). unwrap_or o 0) c.family.ensures) in
    let told = c.op_of_key-in-SingleDeletion.ensures in
    rw c.in-SingleDeletion.is (λ front rest end. record {
      kind = told.kind ∙ at.0;
      family = told.family ∙ at.1;
      key = rw told.key_len (key_alone front (family_bytes c.in-SingleDeletion.family) c.in-SingleDeletion.key.now rest _ c.args.end _ end told.key_at);
      value = told.no_value;
    })

pub returns-in-LogData : goal.returns-in-LogData
returns-in-LogData c =
    let at = subst (Tells c.kind_of-kind.result c.unwrap_or-family.result) c.in-LogData.is
    (c.kind_of-kind.ensures, c.unwrap_or-family.ensures ∙ ap (λ (o : Option ℕ). unwrap_or o 0) c.family.ensures) in
    let told = c.op_of_key-in-LogData.ensures in
    rw c.in-LogData.is (λ front rest end. record {
      kind = told.kind ∙ at.0;
      family = told.family ∙ at.1;
      key = rw told.key_len (key_alone front [] c.in-LogData.blob.now rest _ c.args.end _ end told.key_at);
      value = told.no_value;
    })
