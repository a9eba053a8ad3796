-- The bytes of a record show one thing at most. What breaks off after a tag is compared by way of the records that
-- recovery reads, whose tags have the same families and as many strings.
use Rattle.std.proofs.Common.{◌≡◌, ℕ, Bool, true, false, Option, Some, None, List, [], ◌∷◌, ◌++◌, length, drop, get_or, flat_map, refl, sym, ◌∙◌, ap, subst, arith, append_assoc, inl}
use Rattle.std.specs.Prelude.{is_some, MatchOption}
use Rattle.std.specs.List.{AllByRecursion}
use Rattle.model_base.specs.declared.batch.BatchError.{BatchError}
use Rattle.model_base.specs.Batch.{value, deletion, NoRecord, family_bytes, varstring, RestBreaks}
use Rattle.base_bytes.proofs.Records.{AreShort, IsSmall, one_family, one_strings}
use Rattle.log_batch.proofs.OneRecord.{no_record_error, one_record_error}
use Rattle.batch_operations.specs.Operations.{Operation, IsOperation, NoOperation, layout_of, operation_bytes, body}
use Rattle.batch_operations.specs.Shown.{Have, ShownRecord, Shows, short, whole}
use Rattle.batch_operations.specs.declared.layout.Layout.{Layout}
use Rattle.batch_operations.proofs.Layouts.{AFew, mark, plain_one, plain_two, named_one, named_two, known_few, like_tag}

as_record_error : (named : Bool) (n : ℕ) (bytes : List ℕ) (e : BatchError) → AFew named n → RestBreaks named n bytes e → NoRecord (like_tag named n ∷ bytes) e
as_record_error _ _ bytes e mark broken = absurd (omega (arith, broken.2))
as_record_error _ _ bytes e plain_one broken = inl (refl, broken)
as_record_error _ _ bytes e plain_two broken = inl (refl, broken)
as_record_error _ _ bytes e named_one broken = inl (refl, broken)
as_record_error _ _ bytes e named_two broken = inl (refl, broken)

one_rest_error : (named : Bool) (n : ℕ) (bytes : List ℕ) (d e : BatchError) → AFew named n → RestBreaks named n bytes d → RestBreaks named n bytes e → d ≡ e
one_rest_error named n bytes d e few x y = one_record_error (like_tag named n ∷ bytes) d e (as_record_error named n bytes d few x) (as_record_error named n bytes e few y)

-- bytes that have a family, if one is named, and all strings have no error there
no_rest_error : (named : Option ℕ) (strings : List (List ℕ)) (bytes x : List ℕ) (e : BatchError) → AFew (is_some named) (length strings) → IsSmall named → AreShort strings
    → bytes ≡ family_bytes named ++ (flat_map varstring strings ++ x) → RestBreaks (is_some named) (length strings) bytes e → ⊥
no_rest_error None [] bytes x e few small fit are broken = omega (arith, broken.2)
no_rest_error None (k ∷ []) bytes x e few small fit are broken =
    no_record_error (0 ∷ bytes) x (deletion None k) e (record { tag = refl; family = tt; lengths = fit }) (ap (λ (l : List ℕ). 0 ∷ l) are) (as_record_error false 1 bytes e few broken)
no_rest_error None (k ∷ v ∷ []) bytes x e few small fit are broken =
    no_record_error (1 ∷ bytes) x (value None k v) e (record { tag = refl; family = tt; lengths = fit }) (ap (λ (l : List ℕ). 1 ∷ l) are) (as_record_error false 2 bytes e few broken)
no_rest_error (Some f) (k ∷ []) bytes x e few small fit are broken =
    no_record_error (4 ∷ bytes) x (deletion (Some f) k) e (record { tag = refl; family = small; lengths = fit })
    (ap (λ (l : List ℕ). 4 ∷ l) (are ∙ sym (append_assoc (family_bytes (Some f)) (flat_map varstring (k ∷ [])) x))) (as_record_error true 1 bytes e few broken)
no_rest_error (Some f) (k ∷ v ∷ []) bytes x e few small fit are broken =
    no_record_error (5 ∷ bytes) x (value (Some f) k v) e (record { tag = refl; family = small; lengths = fit })
    (ap (λ (l : List ℕ). 5 ∷ l) (are ∙ sym (append_assoc (family_bytes (Some f)) (flat_map varstring (k ∷ v ∷ [])) x))) (as_record_error true 2 bytes e few broken)
no_rest_error None (k ∷ v ∷ w ∷ strings) bytes x e few small fit are broken = elim few [ ]
no_rest_error (Some f) [] bytes x e few small fit are broken = elim few [ ]
no_rest_error (Some f) (k ∷ v ∷ w ∷ strings) bytes x e few small fit are broken = elim few [ ]

-- A tag that is known.
error_after : (t : ℕ) (l : Layout) (bytes : List ℕ) (e : BatchError) → layout_of t ≡ Some l → NoOperation (t ∷ bytes) e → RestBreaks l.names_family l.strings bytes e
error_after t l bytes e known wrong = rw known at wrong

-- Bytes that begin with an operation have no error.
no_operation_error : (bytes x : List ℕ) (o : Operation) (e : BatchError) → IsOperation o → bytes ≡ operation_bytes o ++ x → NoOperation bytes e → ⊥
no_operation_error [] x o e is are wrong = wrong
no_operation_error (t ∷ bytes) x o e is are wrong =
    let tag : t ≡ o.tag = cc in
    let rest : bytes ≡ (family_bytes o.family ++ flat_map varstring o.strings) ++ x = cc in
    let l = is.layout in
    let known : layout_of t ≡ Some l = ap layout_of tag ∙ is.known in
    let few : AFew (is_some o.family) (length o.strings) = subst (λ (n : ℕ). AFew (is_some o.family) n) (sym is.as_many) (subst (λ (b : Bool). AFew b l.strings) (sym is.named) (known_few t l known)) in
    let broken : RestBreaks (is_some o.family) (length o.strings) bytes e =
    subst (λ (n : ℕ). RestBreaks (is_some o.family) n bytes e) (sym is.as_many) (subst (λ (b : Bool). RestBreaks b l.strings bytes e) (sym is.named) (error_after t l bytes e known wrong)) in
    no_rest_error o.family o.strings bytes x e few is.family is.short (rest ∙ append_assoc (family_bytes o.family) (flat_map varstring o.strings) x) broken

-- Bytes have one error at most.
one_operation_error : (bytes : List ℕ) (d e : BatchError) → NoOperation bytes d → NoOperation bytes e → d ≡ e
one_operation_error [] d e x y = absurd x
one_operation_error (t ∷ bytes) d e x y = by_layout (layout_of t) refl
  where
    by_layout : (o : Option Layout) → layout_of t ≡ o → d ≡ e
    by_layout None unknown = (rw unknown at x) ∙ sym (rw unknown at y)
    by_layout (Some l) known = one_rest_error l.names_family l.strings bytes d e (known_few t l known) (error_after t l bytes d known x) (error_after t l bytes e known y)

-- Bytes that begin with an operation determine it and what follows it.
one_operation : (o p : Operation) (x y : List ℕ) → IsOperation o → IsOperation p → operation_bytes o ++ x ≡ operation_bytes p ++ y → (o ≡ p) × (x ≡ y)
one_operation o p x y is also same =
    let tags : o.tag ≡ p.tag = ap (λ (bytes : List ℕ). get_or bytes 0 0) same in
    let behind : family_bytes o.family ++ (flat_map varstring o.strings ++ x) ≡ family_bytes p.family ++ (flat_map varstring p.strings ++ y) =
    sym (append_assoc (family_bytes o.family) (flat_map varstring o.strings) x) ∙ ap (λ (bytes : List ℕ). drop 1 bytes) same ∙ append_assoc (family_bytes p.family) (flat_map varstring p.strings) y in
    let both : Some is.layout ≡ Some also.layout = sym is.known ∙ ap layout_of tags ∙ also.known in
    let layouts_same : is.layout ≡ also.layout = cc in
    let families = one_family o.family p.family (flat_map varstring o.strings ++ x) (flat_map varstring p.strings ++ y)
    (is.named ∙ ap (λ (l : Layout). l.names_family) layouts_same ∙ sym also.named) is.family also.family behind in
    let strings = one_strings o.strings p.strings x y (is.as_many ∙ ap (λ (l : Layout). l.strings) layouts_same ∙ sym also.as_many) is.short also.short families.1 in
    (rw (tags, families.0, strings.0) refl, strings.1)

-- the bytes begin with no operation
abbrev BeginNone : List ℕ → Type 0
BeginNone bytes = (o : Operation) (x : List ℕ) → IsOperation o → bytes ≡ operation_bytes o ++ x → ⊥

begin_none : (rest : List ℕ) (fault : Option BatchError) → MatchOption fault (rest ≡ []) (NoOperation rest) → BeginNone rest
begin_none rest None none o x is are = omega (arith, ap length (sym none ∙ are))
begin_none rest (Some e) wrong o x is are = no_operation_error rest x o e is are wrong

in_front : (o : Operation) (operations : List Operation) (x : List ℕ) → body (o ∷ operations) ++ x ≡ operation_bytes o ++ (body operations ++ x)
in_front o operations x = append_assoc (operation_bytes o) (body operations) x

-- Reading bytes as far as they can be read gives only one list of operations and one rest.
one_walk : (a b : List Operation) (x y : List ℕ) → AllByRecursion IsOperation a → AllByRecursion IsOperation b → BeginNone x → BeginNone y → body a ++ x ≡ body b ++ y → (a ≡ b) × (x ≡ y)
one_walk [] [] x y are_a are_b none_x none_y same = (refl, same)
one_walk [] (p ∷ b) x y are_a are_b none_x none_y same = absurd (none_x p (body b ++ y) are_b.0 (same ∙ in_front p b y))
one_walk (o ∷ a) [] x y are_a are_b none_x none_y same = absurd (none_y o (body a ++ x) are_a.0 (sym same ∙ in_front o a x))
one_walk (o ∷ a) (p ∷ b) x y are_a are_b none_x none_y same =
    let first = one_operation o p (body a ++ x) (body b ++ y) are_a.0 are_b.0 (sym (in_front o a x) ∙ same ∙ in_front p b y) in
    let rest = one_walk a b x y are_a.1 are_b.1 none_x none_y first.1 in
    (ap (λ (v : Operation). v ∷ a) first.0 ∙ ap (λ (l : List Operation). p ∷ l) rest.0, rest.1)

one_fault : (rest : List ℕ) (f g : Option BatchError) → MatchOption f (rest ≡ []) (NoOperation rest) → MatchOption g (rest ≡ []) (NoOperation rest) → f ≡ g
one_fault rest None None x y = refl
one_fault rest None (Some e) none wrong = absurd (subst (λ (l : List ℕ). NoOperation l e) none wrong)
one_fault rest (Some d) None wrong none = absurd (subst (λ (l : List ℕ). NoOperation l d) none wrong)
one_fault rest (Some d) (Some e) x y = ap (λ (e : BatchError). Some e) (one_operation_error rest d e x y)

one_list : (bytes : List ℕ) (a b : List Operation) (f g : Option BatchError) → Have bytes a f → Have bytes b g → (a ≡ b) × (f ≡ g)
one_list bytes a b f g x y =
    let walked = one_walk a b x.rest y.rest x.are y.are (begin_none x.rest f x.ends) (begin_none y.rest g y.ends) (sym x.spelled ∙ y.spelled) in
    (walked.0, one_fault y.rest f g (subst (λ (l : List ℕ). MatchOption f (l ≡ []) (NoOperation l)) walked.1 x.ends) y.ends)

pub one_shown : (bytes : List ℕ) (one other : ShownRecord) → Shows bytes one → Shows bytes other → one ≡ other
one_shown bytes _ _ (short few) (short also) = refl
one_shown bytes _ _ (short few) (whole long have) = absurd (omega (arith, few, long))
one_shown bytes _ _ (whole long have) (short few) = absurd (omega (arith, few, long))
one_shown bytes _ _ (whole {operations = a} {fault = f} long have) (whole {operations = b} {fault = g} also has) =
    let same = one_list (drop 12 bytes) a b f g have has in
    rw (same.0, same.1) refl
