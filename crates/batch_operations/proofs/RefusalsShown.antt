-- What recovery refuses a batch for is shown, unless it is a tag.
use Rattle.std.proofs.Common.{◌≡◌, inl, inr, ℕ, ◌==◌, ◌++◌, Bool, true, false, cond, Some, None, IsTrue, List, [], ◌∷◌, drop, map, refl, sym, ◌∙◌, ap, subst, append-nil}
use Rattle.std.proofs.lemmas.Bool.{true≢false, false≢true, eqb-true, ne_eqb}
use Rattle.model_base.specs.declared.batch.BatchError.{BatchError}
use Rattle.model_base.specs.declared.batch.BatchError.TheVariants.{Count}
use Rattle.model_base.specs.Batch as batch
use Rattle.model_base.specs.Batch.{is_tag, names_family, strings_after, NoRecord, RestBreaks, IsBatchError, no_header, no_record, wrong_count}
use Rattle.log_laws.proofs.Next.{cases_bool}
use Rattle.batch_operations.specs.declared.layout.Layout.{Layout}
use Rattle.batch_operations.specs.Operations.{NoOperation, layout_of, body, count_of}
use Rattle.batch_operations.specs.Shown.{Have, short, whole, with_count, shown_short, count_in}
use Rattle.batch_operations.specs.Batches.{shown_operation, is_for_tag, ShowsFault}
use Rattle.batch_operations.proofs.BatchesShown.{all_are, body_same, count_same}

-- after the tag follows what recovery reads after it
abbrev Like : ℕ → Type 0
Like t = (l : Layout) × (layout_of t ≡ Some l) × (l.names_family ≡ names_family t) × (l.strings ≡ strings_after t)

at_tag : (u t : ℕ) → (u == t) ≡ true → Like u → Like t
at_tag u t same like = subst Like (eqb-true u t same) like

-- so it is with each tag that recovery reads
like : (t : ℕ) → IsTrue (is_tag t) → Like t
like t is =
    cases_bool (0 == t) (λ e. at_tag 0 t e (_, refl, refl, refl))
    (λ n0. cases_bool (1 == t) (λ e. at_tag 1 t e (_, refl, refl, refl))
    (λ n1. cases_bool (3 == t) (λ e. at_tag 3 t e (_, refl, refl, refl))
    (λ n3. cases_bool (4 == t) (λ e. at_tag 4 t e (_, refl, refl, refl))
    (λ n4. cases_bool (5 == t) (λ e. at_tag 5 t e (_, refl, refl, refl))
    (λ n5. cases_bool (7 == t) (λ e. at_tag 7 t e (_, refl, refl, refl))
    (λ n7. cases_bool (8 == t) (λ e. at_tag 8 t e (_, refl, refl, refl))
    (λ n8. let none : is_tag t ≡ false = rw (n0, n1, n3, n4, n5, n7, n8) refl in absurd (false≢true (sym none ∙ is)))))))))

-- bytes that don't begin with a record don't begin with an operation, unless it is for the tag
no_operation : (rest : List ℕ) (e : BatchError) → is_for_tag e ≡ false → NoRecord rest e → NoOperation rest e
no_operation [] e other wrong = wrong
no_operation (t ∷ bytes) e other (inl (is, broken)) =
    let same = like t is in
    let there : RestBreaks same.0.names_family same.0.strings bytes e =
    subst (λ (n : ℕ). RestBreaks same.0.names_family n bytes e) (sym same.3) (subst (λ (b : Bool). RestBreaks b (strings_after t) bytes e) (sym same.2) broken) in
    rw (same.1) there
no_operation (t ∷ bytes) e other (inr (unknown, tag)) = absurd (true≢false (sym (ap is_for_tag tag) ∙ other))

pub refusal_shown : (bytes : List ℕ) (error : BatchError) → IsBatchError bytes error → is_for_tag error ≡ false → ShowsFault bytes error
refusal_shown bytes _ (no_header few) other = record { shown = shown_short; shows = short few; fault = refl }
refusal_shown bytes error (no_record records rest long readable spelled wrong) other =
    let have : Have (drop 12 bytes) (map shown_operation records) (Some error) = record {
      rest = rest;
      are = all_are records readable;
      spelled = spelled ∙ ap (λ (l : List ℕ). l ++ rest) (sym (body_same records));
      ends = no_operation rest error other wrong;
    } in
    record { shown = _; shows = whole long have; fault = refl }
refusal_shown bytes _ (wrong_count {said = said} records long readable spelled says differs) other =
    let operations = map shown_operation records in
    let have : Have (drop 12 bytes) operations None = record {
      rest = [];
      are = all_are records readable;
      spelled = spelled ∙ (sym (body_same records) ∙ sym (append-nil (body operations)));
      ends = refl;
    } in
    let count = count_same records in
    let apart : (count_in bytes == count_of operations) ≡ false = ne_eqb (count_in bytes) (count_of operations) (λ same. differs (says ∙ (same ∙ count))) in
    let faults : with_count (count_in bytes) operations None ≡ Some (Count said (batch.count_of records)) =
    ap (λ (b : Bool). cond b None (Some (Count (count_in bytes) (count_of operations)))) apart
    ∙ (ap (λ (n : ℕ). Some (Count n (count_of operations))) (sym says) ∙ ap (λ (n : ℕ). Some (Count said n)) count) in
    record { shown = _; shows = whole long have; fault = faults }
