use Rattle.std.proofs.Common.{refl}
use Rattle.model_base.specs.Batch.{family_bytes}
use Rattle.wolzenn_c.proofs.Places.{key_before, value_behind}
use Rattle.wolzenn_c.proofs.OperationPlaces.{only_string}
use Rattle.wolzenn_c.proofs.operations.operation_before.Goals as goal

pub returns-in-None : goal.returns-in-None
returns-in-None c = rw c.in-None.is (λ front rest end. record {
  tag = c.from-tag.ensures;
  family = c.unwrap_or-family.ensures;
  sequences = c.sequences-sequences.ensures;
  as_many = refl;
  first = (refl, refl);
  second = (refl, refl);
})

pub returns-in-One : goal.returns-in-One
returns-in-One c = rw c.in-One.is (λ front rest end. record {
  tag = c.from-tag.ensures;
  family = c.unwrap_or-family.ensures;
  sequences = c.sequences-sequences.ensures;
  as_many = refl;
  first = only_string front (family_bytes c.args.view.family) c.in-One.only.now rest _ c.args.end _ end refl;
  second = (refl, refl);
})

pub returns-in-Two : goal.returns-in-Two
returns-in-Two c =
    let family = family_bytes c.args.view.family in
    rw c.in-Two.is (λ front rest end. record {
      tag = c.from-tag.ensures;
      family = c.unwrap_or-family.ensures;
      sequences = c.sequences-sequences.ensures;
      as_many = refl;
      first = key_before front family c.in-Two.first.now c.in-Two.second.now rest _ c.args.end _ end (rw c.varint32_len.ensures.value refl);
      second = value_behind front family c.in-Two.first.now c.in-Two.second.now rest _ c.args.end _ _ end refl (rw c.varint32_len.ensures.value refl);
    })
