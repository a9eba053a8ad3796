-- Bytes begin with a record of a batch, or there is an error.
use Rattle.std.proofs.Common.{◌≡◌, ◌⊎◌, inl, inr, ⊎_elim, ℕ, ◌+◌, ◌^◌, ◌<◌, ◌≤◌, Bool, true, Option, IsTrue, List, [], ◌∷◌, ◌++◌, length, take, drop, flat_map, refl, sym, ◌∙◌, ap, subst, arith, nat_lt, ◌==◌, append_assoc, append-nil, length-take, length-drop}
use Rattle.std.proofs.lemmas.List.{take-append-drop}
use Rattle.std.proofs.lemmas.Bool.{ltb-true, ltb-false, eqb-true}
use Rattle.std.specs.List.{AllByRecursion}
use Rattle.std.specs.Prelude.{Some, None, is_some}
use Rattle.model_base.specs.declared.coding.CodeError.{CodeError}
use Rattle.model_base.specs.declared.coding.CodeError.TheVariants as code
use Rattle.model_base.specs.declared.batch.BatchError.{BatchError}
use Rattle.model_base.specs.declared.batch.BatchError.TheVariants.{Short, BadVarint, Tag}
use Rattle.model_base.specs.Varint.{varint, BeginsVarint, IsCodeError}
use Rattle.model_base.specs.Batch.{Record, value, deletion, single_deletion, log_data, tag_of, named_by, strings_of, is_tag, names_family, strings_after, varstring, family_bytes, record_bytes, IsReadable, NoVarstring, NoFamily, RestBreaks, NoRecord}
use Rattle.base_bytes.proofs.Spellings.{spelled_as}
use Rattle.base_bytes.proofs.Records.{IsSmall}
use Rattle.log_batch.proofs.OneRecord.{rest_breaks}
use Rattle.log_laws.proofs.Next.{cases_bool}
use Rattle.log_recovery_laws.specs.Reads.{AreBytes}
use Rattle.log_recovery_laws.proofs.Bytes.{bytes_drop}
use Rattle.log_recovery_laws.proofs.Varints.{varint_or_error}

-- the bytes begin with a string and, before it, its length
record OneString (bytes : List ℕ) : Type 0 where
  string : List ℕ
  rest : List ℕ
  short : length string < 2 ^ 32
  split : bytes ≡ varstring string ++ rest
  rest_bytes : AreBytes rest

no_varint : (bytes : List ℕ) (e : CodeError) → IsCodeError bytes e → (error : BatchError) × NoVarstring bytes error
no_varint bytes code.Short is = (Short, inl is)
no_varint bytes code.NotShortest is = (BadVarint, inl is)
no_varint bytes code.TooLong is = (BadVarint, inr is)

string_there : (bytes : List ℕ) (n used : ℕ) → AreBytes bytes → BeginsVarint bytes n used → used + n ≤ length bytes → OneString bytes
string_there bytes n used are b within =
    let string : List ℕ = take n (drop used bytes) in
    let rest : List ℕ = drop n (drop used bytes) in
    let len : length string ≡ n = omega (arith, length-take n (drop used bytes), length-drop used bytes, within) in
    let front : take used bytes ≡ varint (length string) = spelled_as (take used bytes) n b.fits b.spelled ∙ ap varint (sym len) in
    record {
      string = string;
      rest = rest;
      short = omega (arith, len, b.fits);
      split = sym (take-append-drop used bytes) ∙ (ap (λ (l : List ℕ). l ++ drop used bytes) front
          ∙ (ap (λ (l : List ℕ). varint (length string) ++ l) (sym (take-append-drop n (drop used bytes))) ∙ sym (append_assoc (varint (length string)) string rest)));
      rest_bytes = bytes_drop n (drop used bytes) (bytes_drop used bytes are);
    }

string_or_error : (bytes : List ℕ) → AreBytes bytes → OneString bytes ⊎ ((error : BatchError) × NoVarstring bytes error)
string_or_error bytes are =
    ⊎_elim (λ h. cases_bool (nat_lt (length bytes) (h.0 + h.1))
    (λ past. inr (Short, inr (h.1, h.0, h.2, ltb-true (length bytes) (h.0 + h.1) past)))
    (λ within. inl (string_there bytes h.1 h.0 are h.2 (ltb-false (length bytes) (h.0 + h.1) within))))
    (λ e. inr (no_varint bytes e.0 e.1)) (turned (varint_or_error bytes are))
  where
    turned : (((n : ℕ) × (used : ℕ) × BeginsVarint bytes n used) ⊎ ((e : CodeError) × IsCodeError bytes e)) → (((used : ℕ) × (n : ℕ) × BeginsVarint bytes n used) ⊎ ((e : CodeError) × IsCodeError bytes e))
    turned (inl h) = inl (h.1, h.0, h.2)
    turned (inr e) = inr e

-- the bytes begin with a family's number
record OneFamily (bytes : List ℕ) : Type 0 where
  family : ℕ
  rest : List ℕ
  small : family < 2 ^ 32
  split : bytes ≡ varint family ++ rest
  rest_bytes : AreBytes rest

no_number : (bytes : List ℕ) (e : CodeError) → IsCodeError bytes e → (error : BatchError) × NoFamily bytes error
no_number bytes code.Short is = (Short, is)
no_number bytes code.NotShortest is = (BadVarint, inl is)
no_number bytes code.TooLong is = (BadVarint, inr is)

family_or_error : (bytes : List ℕ) → AreBytes bytes → OneFamily bytes ⊎ ((error : BatchError) × NoFamily bytes error)
family_or_error bytes are = by (varint_or_error bytes are)
  where
    by : (((n : ℕ) × (used : ℕ) × BeginsVarint bytes n used) ⊎ ((e : CodeError) × IsCodeError bytes e)) → OneFamily bytes ⊎ ((error : BatchError) × NoFamily bytes error)
    by (inl h) = inl (record {
      family = h.0;
      rest = drop h.1 bytes;
      small = h.2.fits;
      split = sym (take-append-drop h.1 bytes) ∙ ap (λ (l : List ℕ). l ++ drop h.1 bytes) (spelled_as (take h.1 bytes) h.0 h.2.fits h.2.spelled);
      rest_bytes = bytes_drop h.1 bytes are;
    })
    by (inr e) = inr (no_number bytes e.0 e.1)

-- the bytes begin with a record that can be read
pub record OneRecord (bytes : List ℕ) : Type 0 where
  pub first : Record
  pub rest : List ℕ
  pub readable : IsReadable first
  pub split : bytes ≡ record_bytes first ++ rest
  pub rest_bytes : AreBytes rest

abbrev pub RecordOrError : List ℕ → Type 0
RecordOrError bytes = OneRecord bytes ⊎ ((error : BatchError) × NoRecord bytes error)

-- with a tag and a family, if one is named, after which one string comes, the bytes begin with such a record, or there is
-- an error
of_one : (make : List ℕ → Record) (t : ℕ) (named : Option ℕ) → ((s : List ℕ) → tag_of (make s) ≡ t) → ((s : List ℕ) → named_by (make s) ≡ named) → ((s : List ℕ) → strings_of (make s) ≡ s ∷ [])
    → IsTrue (is_tag t) → is_some named ≡ names_family t → IsSmall named → 0 < strings_after t → (bytes strings : List ℕ) → AreBytes strings → bytes ≡ family_bytes named ++ strings → RecordOrError (t ∷ bytes)
of_one make t named tag named_is strings_are is both small some bytes strings are split = by (string_or_error strings are)
  where
    by : OneString strings ⊎ ((error : BatchError) × NoVarstring strings error) → RecordOrError (t ∷ bytes)
    by (inr e) = inr (e.0, inl (is, rest_breaks named (names_family t) (strings_after t) bytes strings e.0 both small split ([], strings, some, tt, refl, e.1)))
    by (inl one) =
        let r = make one.string in
        let behind : bytes ≡ (family_bytes named ++ flat_map varstring (one.string ∷ [])) ++ one.rest =
        split ∙ ap (λ (l : List ℕ). family_bytes named ++ l) (one.split ∙ ap (λ (l : List ℕ). l ++ one.rest) (sym (append-nil (varstring one.string))))
        ∙ sym (append_assoc (family_bytes named) (flat_map varstring (one.string ∷ [])) one.rest) in
        inl (record {
          first = r;
          rest = one.rest;
          readable = record {
            tag = subst (λ u. IsTrue (is_tag u)) (sym (tag one.string)) is;
            family = subst IsSmall (sym (named_is one.string)) small;
            lengths = subst (AllByRecursion (λ s. length s < 2 ^ 32)) (sym (strings_are one.string)) (one.short, tt);
          };
          split = rw (tag one.string, named_is one.string, strings_are one.string) (ap (λ (l : List ℕ). t ∷ l) behind);
          rest_bytes = one.rest_bytes;
        })

-- the same for a value, which has a key and a value
of_two : (t : ℕ) (named : Option ℕ) → ((k v : List ℕ) → tag_of (value named k v) ≡ t) → IsTrue (is_tag t) → is_some named ≡ names_family t → IsSmall named → 1 < strings_after t
    → (bytes strings : List ℕ) → AreBytes strings → bytes ≡ family_bytes named ++ strings → RecordOrError (t ∷ bytes)
of_two t named tag is both small two bytes strings are split = by_key (string_or_error strings are)
  where
    by_value : (key : OneString strings) → OneString key.rest ⊎ ((error : BatchError) × NoVarstring key.rest error) → RecordOrError (t ∷ bytes)
    by_value key (inr e) = inr (
      e.0,
      inl (
        is,
        rest_breaks named (names_family t) (strings_after t) bytes strings e.0 both small split
            (key.string ∷ [], key.rest, two, (key.short, tt), key.split ∙ ap (λ (l : List ℕ). l ++ key.rest) (sym (append-nil (varstring key.string))), e.1),
      ),
    )
    by_value key (inl second) =
        let both_strings : strings ≡ flat_map varstring (key.string ∷ second.string ∷ []) ++ second.rest =
        key.split ∙ (ap (λ (l : List ℕ). varstring key.string ++ l) (second.split ∙ ap (λ (l : List ℕ). l ++ second.rest) (sym (append-nil (varstring second.string))))
        ∙ sym (append_assoc (varstring key.string) (flat_map varstring (second.string ∷ [])) second.rest)) in
        let behind : bytes ≡ (family_bytes named ++ flat_map varstring (key.string ∷ second.string ∷ [])) ++ second.rest =
        split ∙ ap (λ (l : List ℕ). family_bytes named ++ l) both_strings ∙ sym (append_assoc (family_bytes named) (flat_map varstring (key.string ∷ second.string ∷ [])) second.rest) in
        inl (record {
          first = value named key.string second.string;
          rest = second.rest;
          readable = record { tag = subst (λ u. IsTrue (is_tag u)) (sym (tag key.string second.string)) is; family = small; lengths = (key.short, (second.short, tt)) };
          split = rw (tag key.string second.string) (ap (λ (l : List ℕ). t ∷ l) behind);
          rest_bytes = second.rest_bytes;
        })

    by_key : OneString strings ⊎ ((error : BatchError) × NoVarstring strings error) → RecordOrError (t ∷ bytes)
    by_key (inr e) = inr (e.0, inl (is, rest_breaks named (names_family t) (strings_after t) bytes strings e.0 both small split ([], strings, omega (arith, two), tt, refl, e.1)))
    by_key (inl key) = by_value key (string_or_error key.rest key.rest_bytes)

-- after a tag that says that a family is named
in_family : (t : ℕ) (bytes : List ℕ) → AreBytes bytes → IsTrue (is_tag t) → names_family t ≡ true
    → ((f : OneFamily bytes) → RecordOrError (t ∷ bytes)) → RecordOrError (t ∷ bytes)
in_family t bytes are is named rest = by (family_or_error bytes are)
  where
    by : OneFamily bytes ⊎ ((error : BatchError) × NoFamily bytes error) → RecordOrError (t ∷ bytes)
    by (inl f) = rest f
    by (inr e) = inr (e.0, inl (is, subst (λ (b : Bool). RestBreaks b (strings_after t) bytes e.0) (sym named) (inl e.1)))

at_0 : (bytes : List ℕ) → AreBytes bytes → RecordOrError (0 ∷ bytes)
at_0 bytes are = of_one (deletion None) 0 None (λ s. refl) (λ s. refl) (λ s. refl) refl refl tt (omega arith) bytes bytes are refl

at_1 : (bytes : List ℕ) → AreBytes bytes → RecordOrError (1 ∷ bytes)
at_1 bytes are = of_two 1 None (λ k v. refl) refl refl tt (omega arith) bytes bytes are refl

at_3 : (bytes : List ℕ) → AreBytes bytes → RecordOrError (3 ∷ bytes)
at_3 bytes are = of_one log_data 3 None (λ s. refl) (λ s. refl) (λ s. refl) refl refl tt (omega arith) bytes bytes are refl

at_4 : (bytes : List ℕ) → AreBytes bytes → RecordOrError (4 ∷ bytes)
at_4 bytes are = in_family 4 bytes are refl refl (λ f. of_one (deletion (Some f.family)) 4 (Some f.family) (λ s. refl) (λ s. refl) (λ s. refl) refl refl f.small (omega arith) bytes f.rest f.rest_bytes f.split)

at_5 : (bytes : List ℕ) → AreBytes bytes → RecordOrError (5 ∷ bytes)
at_5 bytes are = in_family 5 bytes are refl refl (λ f. of_two 5 (Some f.family) (λ k v. refl) refl refl f.small (omega arith) bytes f.rest f.rest_bytes f.split)

at_7 : (bytes : List ℕ) → AreBytes bytes → RecordOrError (7 ∷ bytes)
at_7 bytes are = of_one (single_deletion None) 7 None (λ s. refl) (λ s. refl) (λ s. refl) refl refl tt (omega arith) bytes bytes are refl

at_8 : (bytes : List ℕ) → AreBytes bytes → RecordOrError (8 ∷ bytes)
at_8 bytes are = in_family 8 bytes are refl refl (λ f. of_one (single_deletion (Some f.family)) 8 (Some f.family) (λ s. refl) (λ s. refl) (λ s. refl) refl refl f.small (omega arith) bytes f.rest f.rest_bytes f.split)

-- from one tag to another that is equal to it
at_tag : (u t : ℕ) (bytes : List ℕ) → (u == t) ≡ true → RecordOrError (u ∷ bytes) → RecordOrError (t ∷ bytes)
at_tag u t bytes e at = subst (λ n. RecordOrError (n ∷ bytes)) (eqb-true u t e) at

pub record_or_error : (t : ℕ) (bytes : List ℕ) → AreBytes bytes → RecordOrError (t ∷ bytes)
record_or_error t bytes are =
    cases_bool (0 == t) (λ e. at_tag 0 t bytes e (at_0 bytes are))
    (λ n0. cases_bool (1 == t) (λ e. at_tag 1 t bytes e (at_1 bytes are))
    (λ n1. cases_bool (3 == t) (λ e. at_tag 3 t bytes e (at_3 bytes are))
    (λ n3. cases_bool (4 == t) (λ e. at_tag 4 t bytes e (at_4 bytes are))
    (λ n4. cases_bool (5 == t) (λ e. at_tag 5 t bytes e (at_5 bytes are))
    (λ n5. cases_bool (7 == t) (λ e. at_tag 7 t bytes e (at_7 bytes are))
    (λ n7. cases_bool (8 == t) (λ e. at_tag 8 t bytes e (at_8 bytes are))
    (λ n8. inr (Tag t, inr (rw (n0, n1, n3, n4, n5, n7, n8) refl, refl)))))))))
