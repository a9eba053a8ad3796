-- The bytes of a record show something. What comes after a tag is read as after a tag of recovery's, which has the same
-- family and as many strings.
use Rattle.std.proofs.Common.{◌≡◌, ◌⊎◌, inl, inr, ⊎_elim, ℕ, zero, suc, ◌<◌, ◌≤◌, Bool, true, false, Option, Some, None, List, [], ◌∷◌, ◌++◌, length, drop, flat_map, nat_lt, refl, sym, ◌∙◌, ap, subst, arith, append_assoc, length-append}
use Rattle.std.proofs.lemmas.Bool.{ltb-true, ltb-false}
use Rattle.model_base.specs.declared.batch.BatchError.{BatchError}
use Rattle.model_base.specs.declared.batch.BatchError.TheVariants.{Tag}
use Rattle.model_base.specs.Batch.{NoRecord, RestBreaks, tag_of, named_by, strings_of, names_family, strings_after, family_bytes, varstring}
use Rattle.base_bytes.proofs.Records.{named_is, strings_are}
use Rattle.log_laws.proofs.Next.{cases_bool}
use Rattle.log_recovery_laws.specs.Reads.{AreBytes}
use Rattle.log_recovery_laws.proofs.Bytes.{bytes_drop}
use Rattle.log_recovery_laws.proofs.Records.{RecordOrError, record_or_error}
use Rattle.batch_operations.specs.Operations.{Operation, IsOperation, NoOperation, layout_of, operation_bytes, body}
use Rattle.batch_operations.specs.Shown.{Have, ShownRecord, Shows, short, whole, shown_short}
use Rattle.batch_operations.specs.declared.layout.Layout.{Layout}
use Rattle.batch_operations.proofs.Layouts.{AFew, mark, plain_one, plain_two, named_one, named_two, known_few, like_tag}

-- the bytes begin with an operation
record OneFirst (bytes : List ℕ) : Type 0 where
  first : Operation
  rest : List ℕ
  is : IsOperation first
  split : bytes ≡ operation_bytes first ++ rest
  rest_bytes : AreBytes rest

abbrev OrError : List ℕ → Type 0
OrError bytes = OneFirst bytes ⊎ ((error : BatchError) × NoOperation bytes error)

like_names : (named : Bool) (n : ℕ) → AFew named n → names_family (like_tag named n) ≡ named
like_names _ _ mark = refl
like_names _ _ plain_one = refl
like_names _ _ plain_two = refl
like_names _ _ named_one = refl
like_names _ _ named_two = refl

like_strings : (named : Bool) (n : ℕ) → AFew named n → 0 < n → strings_after (like_tag named n) ≡ n
like_strings _ _ mark some = absurd (omega (arith, some))
like_strings _ _ plain_one some = refl
like_strings _ _ plain_two some = refl
like_strings _ _ named_one some = refl
like_strings _ _ named_two some = refl

error_back : (named : Bool) (n : ℕ) (bytes : List ℕ) (e : BatchError) → AFew named n → 0 < n → NoRecord (like_tag named n ∷ bytes) e → RestBreaks named n bytes e
error_back _ _ bytes e mark some wrong = absurd (omega (arith, some))
error_back _ _ bytes e plain_one some (inl broken) = broken.1
error_back _ _ bytes e plain_one some (inr unknown) = absurd (cc unknown.0)
error_back _ _ bytes e plain_two some (inl broken) = broken.1
error_back _ _ bytes e plain_two some (inr unknown) = absurd (cc unknown.0)
error_back _ _ bytes e named_one some (inl broken) = broken.1
error_back _ _ bytes e named_one some (inr unknown) = absurd (cc unknown.0)
error_back _ _ bytes e named_two some (inl broken) = broken.1
error_back _ _ bytes e named_two some (inr unknown) = absurd (cc unknown.0)

-- A tag that is known.
module _ (t : ℕ) (l : Layout) (known : layout_of t ≡ Some l) (bytes : List ℕ) (are : AreBytes bytes) where
  of_record : (named : Bool) (n : ℕ) → l.names_family ≡ named → l.strings ≡ n → AFew named n → 0 < n → RecordOrError (like_tag named n ∷ bytes) → OrError (t ∷ bytes)
  of_record named n names strings few some (inl one) =
      let r = one.first in
      let tag : like_tag named n ≡ tag_of r = let split = one.split in cc in
      let tail : bytes ≡ (family_bytes (named_by r) ++ flat_map varstring (strings_of r)) ++ one.rest = let split = one.split in cc in
      inl (record {
        first = record { tag = t; family = named_by r; strings = strings_of r };
        rest = one.rest;
        is = record {
          layout = l;
          known = known;
          named = sym (named_is r) ∙ (ap names_family (sym tag) ∙ (like_names named n few ∙ sym names));
          family = one.readable.family;
          as_many = strings_are r ∙ (ap strings_after (sym tag) ∙ (like_strings named n few some ∙ sym strings));
          short = one.readable.lengths;
        };
        split = ap (λ (bs : List ℕ). t ∷ bs) tail;
        rest_bytes = one.rest_bytes;
      })
  of_record named n names strings few some (inr wrong) =
      let broken : RestBreaks l.names_family l.strings bytes wrong.0 =
      subst (λ (m : ℕ). RestBreaks l.names_family m bytes wrong.0) (sym strings) (subst (λ (b : Bool). RestBreaks b n bytes wrong.0) (sym names) (error_back named n bytes wrong.0 few some wrong.1)) in
      inr (wrong.0, rw known broken)

  by_few : (named : Bool) (n : ℕ) → l.names_family ≡ named → l.strings ≡ n → AFew named n → OrError (t ∷ bytes)
  by_few false zero names strings mark = inl (record {
    first = record { tag = t; family = None; strings = [] };
    rest = bytes;
    is = record { layout = l; known = known; named = sym names; family = tt; as_many = sym strings; short = tt };
    split = refl;
    rest_bytes = are;
  })
  by_few true zero names strings few = elim few [ ]
  by_few named (suc n) names strings few = of_record named (suc n) names strings few (omega arith) (record_or_error (like_tag named (suc n)) bytes are)

operation_or_error : (t : ℕ) (bytes : List ℕ) → AreBytes bytes → OrError (t ∷ bytes)
operation_or_error t bytes are = by_layout (layout_of t) refl
  where
    by_layout : (o : Option Layout) → layout_of t ≡ o → OrError (t ∷ bytes)
    by_layout None unknown = inr (Tag t, rw unknown refl)
    by_layout (Some l) known = by_few t l known bytes are l.names_family l.strings refl refl (known_few t l known)

-- operations up to the first fault
abbrev SomeHave : List ℕ → Type 0
SomeHave bytes = (operations : List Operation) × (fault : Option BatchError) × Have bytes operations fault

one_more : (bytes : List ℕ) (one : OneFirst bytes) → SomeHave one.rest → SomeHave bytes
one_more bytes one (operations, fault, have) = (
  one.first ∷ operations,
  fault,
  record {
    rest = have.rest;
    are = (one.is, have.are);
    spelled = one.split ∙ (ap (λ (l : List ℕ). operation_bytes one.first ++ l) have.spelled ∙ sym (append_assoc (operation_bytes one.first) (body operations) have.rest));
    ends = have.ends;
  },
)

walk : (fuel : ℕ) (bytes : List ℕ) → AreBytes bytes → length bytes ≤ fuel → SomeHave bytes
walk fuel [] are enough = ([], None, record { rest = []; are = tt; spelled = refl; ends = refl })
walk zero (t ∷ bytes) are enough = absurd (omega (arith, enough))
walk (suc fuel) (t ∷ bytes) are enough = ⊎_elim
    (λ (one : OneFirst (t ∷ bytes)). one_more (t ∷ bytes) one (walk fuel one.rest one.rest_bytes (omega (arith, enough, ap length one.split, length-append (operation_bytes one.first) one.rest))))
    (λ e. ([], Some e.0, record { rest = t ∷ bytes; are = tt; spelled = refl; ends = e.1 }))
    (operation_or_error t bytes are.1)

pub some_shown : (bytes : List ℕ) → AreBytes bytes → (shown : ShownRecord) × Shows bytes shown
some_shown bytes are = cases_bool (nat_lt (length bytes) 12)
    (λ few. (shown_short, short (ltb-true (length bytes) 12 few)))
    (λ long.
    let have = walk (length (drop 12 bytes)) (drop 12 bytes) (bytes_drop 12 bytes are) (omega arith) in
    (_, whole (ltb-false (length bytes) 12 long) have.2))
