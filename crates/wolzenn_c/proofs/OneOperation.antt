-- Bytes that begin with an operation have no error there. What breaks off after a tag is compared by way of the records
-- that recovery reads, whose tags have the same families and as many strings.
use Rattle.std.proofs.Common.{◌≡◌, ℕ, Bool, true, false, Option, Some, None, List, [], ◌∷◌, ◌++◌, length, flat_map, refl, sym, ◌∙◌, ap, subst, arith, append_assoc, inl}
use Rattle.std.specs.Prelude.{is_some}
use Rattle.model_base.specs.declared.batch.BatchError.{BatchError}
use Rattle.model_base.specs.Batch.{value, deletion, NoRecord, family_bytes, varstring, RestBreaks}
use Rattle.base_bytes.proofs.Records.{AreShort, IsSmall}
use Rattle.log_batch.proofs.OneRecord.{no_record_error}
use Rattle.batch_operations.specs.Operations.{Operation, IsOperation, NoOperation, layout_of, operation_bytes}
use Rattle.batch_operations.specs.declared.layout.Layout.{Layout}
use Rattle.batch_operations.proofs.Layouts.{AFew, mark, plain_one, plain_two, named_one, named_two, known_few, like_tag}

as_record_error : (named : Bool) (n : ℕ) (bytes : List ℕ) (e : BatchError) → AFew named n → RestBreaks named n bytes e → NoRecord (like_tag named n ∷ bytes) e
as_record_error _ _ bytes e mark broken = absurd (omega (arith, broken.2))
as_record_error _ _ bytes e plain_one broken = inl (refl, broken)
as_record_error _ _ bytes e plain_two broken = inl (refl, broken)
as_record_error _ _ bytes e named_one broken = inl (refl, broken)
as_record_error _ _ bytes e named_two broken = inl (refl, broken)

-- bytes that have a family, if one is named, and all strings have no error there
no_rest_error : (named : Option ℕ) (strings : List (List ℕ)) (bytes x : List ℕ) (e : BatchError) → AFew (is_some named) (length strings) → IsSmall named → AreShort strings
    → bytes ≡ family_bytes named ++ (flat_map varstring strings ++ x) → RestBreaks (is_some named) (length strings) bytes e → ⊥
no_rest_error None [] bytes x e few small fit are broken = omega (arith, broken.2)
no_rest_error None (k ∷ []) bytes x e few small fit are broken =
    no_record_error (0 ∷ bytes) x (deletion None k) e (record { tag = refl; family = tt; lengths = fit }) (ap (λ (l : List ℕ). 0 ∷ l) are) (as_record_error false 1 bytes e few broken)
no_rest_error None (k ∷ v ∷ []) bytes x e few small fit are broken =
    no_record_error (1 ∷ bytes) x (value None k v) e (record { tag = refl; family = tt; lengths = fit }) (ap (λ (l : List ℕ). 1 ∷ l) are) (as_record_error false 2 bytes e few broken)
no_rest_error (Some f) (k ∷ []) bytes x e few small fit are broken =
    no_record_error (4 ∷ bytes) x (deletion (Some f) k) e (record { tag = refl; family = small; lengths = fit })
    (ap (λ (l : List ℕ). 4 ∷ l) (are ∙ sym (append_assoc (family_bytes (Some f)) (flat_map varstring (k ∷ [])) x))) (as_record_error true 1 bytes e few broken)
no_rest_error (Some f) (k ∷ v ∷ []) bytes x e few small fit are broken =
    no_record_error (5 ∷ bytes) x (value (Some f) k v) e (record { tag = refl; family = small; lengths = fit })
    (ap (λ (l : List ℕ). 5 ∷ l) (are ∙ sym (append_assoc (family_bytes (Some f)) (flat_map varstring (k ∷ v ∷ [])) x))) (as_record_error true 2 bytes e few broken)
no_rest_error None (k ∷ v ∷ w ∷ strings) bytes x e few small fit are broken = elim few [ ]
no_rest_error (Some f) [] bytes x e few small fit are broken = elim few [ ]
no_rest_error (Some f) (k ∷ v ∷ w ∷ strings) bytes x e few small fit are broken = elim few [ ]

-- A tag that is known.
error_after : (t : ℕ) (l : Layout) (bytes : List ℕ) (e : BatchError) → layout_of t ≡ Some l → NoOperation (t ∷ bytes) e → RestBreaks l.names_family l.strings bytes e
error_after t l bytes e known wrong = rw known at wrong

-- Bytes that begin with an operation have no error.
pub no_operation_error : (bytes x : List ℕ) (o : Operation) (e : BatchError) → IsOperation o → bytes ≡ operation_bytes o ++ x → NoOperation bytes e → ⊥
no_operation_error [] x o e is are wrong = wrong
no_operation_error (t ∷ bytes) x o e is are wrong =
    let tag : t ≡ o.tag = cc in
    let rest : bytes ≡ (family_bytes o.family ++ flat_map varstring o.strings) ++ x = cc in
    let l = is.layout in
    let known : layout_of t ≡ Some l = ap layout_of tag ∙ is.known in
    let few : AFew (is_some o.family) (length o.strings) = subst (λ (n : ℕ). AFew (is_some o.family) n) (sym is.as_many) (subst (λ (b : Bool). AFew b l.strings) (sym is.named) (known_few t l known)) in
    let broken : RestBreaks (is_some o.family) (length o.strings) bytes e =
    subst (λ (n : ℕ). RestBreaks (is_some o.family) n bytes e) (sym is.as_many) (subst (λ (b : Bool). RestBreaks b l.strings bytes e) (sym is.named) (error_after t l bytes e known wrong)) in
    no_rest_error o.family o.strings bytes x e few is.family is.short (rest ∙ append_assoc (family_bytes o.family) (flat_map varstring o.strings) x) broken
