-- Bytes that begin with a readable record have no error, and bytes have one error at most.
use Rattle.std.proofs.Common.{◌≡◌, ◌⊎◌, inl, inr, ℕ, ◌==◌, ◌-◌, ◌^◌, ◌<◌, Bool, true, false, Option, IsTrue, List, [], ◌∷◌, ◌++◌, length, take, drop, get_or, flat_map, refl, sym, ◌∙◌, ap, subst, arith, append_assoc, length-append}
use Rattle.std.specs.List.{list_any}
use Rattle.std.specs.Prelude.{Some, None, is_some}
use Rattle.std.proofs.Math.Seq.{take-length, take-append_seam}
use Rattle.std.proofs.lemmas.Bool.{false≢true}
use Rattle.model_base.specs.declared.coding.CodeError.TheVariants as code
use Rattle.model_base.specs.declared.batch.BatchError.{BatchError}
use Rattle.model_base.specs.declared.batch.BatchError.TheVariants.{Short, BadVarint, Tag, Count}
use Rattle.model_base.specs.Varint.{varint, BeginsVarint}
use Rattle.model_base.specs.Batch.{Record, tag_of, strings_of, is_tag, strings_after, names_family, named_by, family_bytes, varstring, record_bytes, IsReadable, NoVarstring, StringsBreak, NoFamily, RestBreaks, NoRecord}
use Rattle.base_bytes.proofs.Spellings.{varint_spells}
use Rattle.base_bytes.proofs.OneAnswer.{one_front, no_error, one_error}
use Rattle.base_bytes.proofs.Records.{AreShort, IsSmall, named_is, strings_are, one_string, one_family}

-- the bytes of a string begin with its length
begins_length : (s x : List ℕ) → length s < 2 ^ 32 → BeginsVarint (varstring s ++ x) (length s) (length (varint (length s)))
begins_length s x short =
    let v = varint (length s) in
    let front : take (length v) ((v ++ s) ++ x) ≡ v = ap (take (length v)) (append_assoc v s x) ∙ take-append_seam v (s ++ x) in
    record { spelled = rw front (varint_spells (length s) short); within = omega (arith, length-append (v ++ s) x, length-append v s); fits = short }

-- bytes that begin with a string have no error
no_varstring : (s x : List ℕ) (e : BatchError) → length s < 2 ^ 32 → NoVarstring (varstring s ++ x) e → ⊥
no_varstring s x Short short (inl error) = no_error (varstring s ++ x) (length s) (length (varint (length s))) code.Short (begins_length s x short) error
no_varstring s x Short short (inr past) =
    let same = one_front (varstring s ++ x) past.0 past.1 (length s) (length (varint (length s))) past.2 (begins_length s x short) in
    omega (arith, same.0, same.1, past.3, length-append (varstring s) x, length-append (varint (length s)) s)
no_varstring s x BadVarint short (inl error) = no_error (varstring s ++ x) (length s) (length (varint (length s))) code.NotShortest (begins_length s x short) error
no_varstring s x BadVarint short (inr error) = no_error (varstring s ++ x) (length s) (length (varint (length s))) code.TooLong (begins_length s x short) error
no_varstring s x (Tag t) short error = error
no_varstring s x (Count said found) short error = error

-- bytes with the error `Short` don't have the error `BadVarint`
short_alone : (bytes : List ℕ) → NoVarstring bytes Short → NoVarstring bytes BadVarint → ⊥
short_alone bytes (inl x) (inl y) = cc (one_error bytes code.Short code.NotShortest x y)
short_alone bytes (inl x) (inr y) = cc (one_error bytes code.Short code.TooLong x y)
short_alone bytes (inr x) (inl y) = no_error bytes x.0 x.1 code.NotShortest x.2 y
short_alone bytes (inr x) (inr y) = no_error bytes x.0 x.1 code.TooLong x.2 y

-- bytes have one error at most
one_no_varstring : (bytes : List ℕ) (d e : BatchError) → NoVarstring bytes d → NoVarstring bytes e → d ≡ e
one_no_varstring bytes Short Short x y = refl
one_no_varstring bytes Short BadVarint x y = absurd (short_alone bytes x y)
one_no_varstring bytes BadVarint Short x y = absurd (short_alone bytes y x)
one_no_varstring bytes BadVarint BadVarint x y = refl
one_no_varstring bytes d (Tag t) x y = absurd y
one_no_varstring bytes d (Count said found) x y = absurd y
one_no_varstring bytes (Tag t) e x y = absurd x
one_no_varstring bytes (Count said found) e x y = absurd x

-- the bytes of several strings begin with those of the first
in_front : (s : List ℕ) (strings : List (List ℕ)) (x : List ℕ) → flat_map varstring (s ∷ strings) ++ x ≡ varstring s ++ (flat_map varstring strings ++ x)
in_front s strings x = append_assoc (varstring s) (flat_map varstring strings) x

-- bytes that begin with all the strings don't break off after some of them
breaks_not : (whole strings : List (List ℕ)) (rest x : List ℕ) (e : BatchError) → length whole < length strings → AreShort whole → AreShort strings
    → flat_map varstring whole ++ rest ≡ flat_map varstring strings ++ x → NoVarstring rest e → ⊥
breaks_not whole [] rest x e fewer short_w short_s same wrong = omega (arith, fewer)
breaks_not [] (s ∷ strings) rest x e fewer short_w short_s same wrong =
    no_varstring s (flat_map varstring strings ++ x) e short_s.0 (subst (λ (l : List ℕ). NoVarstring l e) (same ∙ in_front s strings x) wrong)
breaks_not (w ∷ whole) (s ∷ strings) rest x e fewer short_w short_s same wrong =
    let first = one_string w s (flat_map varstring whole ++ rest) (flat_map varstring strings ++ x) short_w.0 short_s.0 (sym (in_front w whole rest) ∙ same ∙ in_front s strings x) in
    breaks_not whole strings rest x e (omega (arith, fewer)) short_w.1 short_s.1 first.1 wrong

-- if the strings break off in two ways, the error is the same
one_break : (whole strings : List (List ℕ)) (rest x : List ℕ) (d e : BatchError) → AreShort whole → AreShort strings
    → flat_map varstring whole ++ rest ≡ flat_map varstring strings ++ x → NoVarstring rest d → NoVarstring x e → d ≡ e
one_break [] [] rest x d e short_w short_s same wrong_w wrong_s = one_no_varstring x d e (subst (λ (l : List ℕ). NoVarstring l d) same wrong_w) wrong_s
one_break [] (s ∷ strings) rest x d e short_w short_s same wrong_w wrong_s =
    absurd (no_varstring s (flat_map varstring strings ++ x) d short_s.0 (subst (λ (l : List ℕ). NoVarstring l d) (same ∙ in_front s strings x) wrong_w))
one_break (w ∷ whole) [] rest x d e short_w short_s same wrong_w wrong_s =
    absurd (no_varstring w (flat_map varstring whole ++ rest) e short_w.0 (subst (λ (l : List ℕ). NoVarstring l e) (sym same ∙ in_front w whole rest) wrong_s))
one_break (w ∷ whole) (s ∷ strings) rest x d e short_w short_s same wrong_w wrong_s =
    let first = one_string w s (flat_map varstring whole ++ rest) (flat_map varstring strings ++ x) short_w.0 short_s.0 (sym (in_front w whole rest) ∙ same ∙ in_front s strings x) in
    one_break whole strings rest x d e short_w.1 short_s.1 first.1 wrong_w wrong_s

-- no test both passes and fails
not_both : (b : Bool) → IsTrue b → b ≡ false → ⊥
not_both b passed failed = false≢true (sym failed ∙ passed)

-- the bytes of a family's number begin with it
begins_family : (f : ℕ) (x : List ℕ) → f < 2 ^ 32 → BeginsVarint (varint f ++ x) f (length (varint f))
begins_family f x small =
    let v = varint f in
    let front : take (length v) (v ++ x) ≡ v = take-append_seam v x in
    record { spelled = rw front (varint_spells f small); within = omega (arith, length-append v x); fits = small }

-- bytes that begin with a family's number have no error there
no_family_error : (f : ℕ) (x : List ℕ) (e : BatchError) → f < 2 ^ 32 → NoFamily (varint f ++ x) e → ⊥
no_family_error f x Short small error = no_error (varint f ++ x) f (length (varint f)) code.Short (begins_family f x small) error
no_family_error f x BadVarint small (inl error) = no_error (varint f ++ x) f (length (varint f)) code.NotShortest (begins_family f x small) error
no_family_error f x BadVarint small (inr error) = no_error (varint f ++ x) f (length (varint f)) code.TooLong (begins_family f x small) error
no_family_error f x (Tag t) small error = error
no_family_error f x (Count said found) small error = error

-- bytes have one such error at most
one_no_family : (bytes : List ℕ) (d e : BatchError) → NoFamily bytes d → NoFamily bytes e → d ≡ e
one_no_family bytes Short Short x y = refl
one_no_family bytes Short BadVarint x (inl y) = absurd (cc (one_error bytes code.Short code.NotShortest x y))
one_no_family bytes Short BadVarint x (inr y) = absurd (cc (one_error bytes code.Short code.TooLong x y))
one_no_family bytes BadVarint Short (inl x) y = absurd (cc (one_error bytes code.Short code.NotShortest y x))
one_no_family bytes BadVarint Short (inr x) y = absurd (cc (one_error bytes code.Short code.TooLong y x))
one_no_family bytes BadVarint BadVarint x y = refl
one_no_family bytes d (Tag t) x y = absurd y
one_no_family bytes d (Count said found) x y = absurd y
one_no_family bytes (Tag t) e x y = absurd x
one_no_family bytes (Count said found) e x y = absurd x

-- bytes that have a family, if one is named, and all strings have no error there
no_rest_error : (named : Option ℕ) (n : ℕ) (strings : List (List ℕ)) (bytes x : List ℕ) (e : BatchError) → IsSmall named → AreShort strings → length strings ≡ n
    → bytes ≡ family_bytes named ++ (flat_map varstring strings ++ x) → RestBreaks (is_some named) n bytes e → ⊥
no_rest_error None n strings bytes x e small short as_many are broken =
    breaks_not broken.0 strings broken.1 x e (omega (arith, broken.2, as_many)) broken.3 short (sym broken.4 ∙ are) broken.5
no_rest_error (Some f) n strings bytes x e small short as_many are (inl wrong) =
    no_family_error f (flat_map varstring strings ++ x) e small (subst (λ (l : List ℕ). NoFamily l e) are wrong)
no_rest_error (Some f) n strings bytes x e small short as_many are (inr broken) =
    let behind = one_family (Some broken.0) (Some f) broken.1 (flat_map varstring strings ++ x) refl broken.2 small (sym broken.3 ∙ are) in
    let breaks = broken.4 in
    breaks_not breaks.0 strings breaks.1 x e (omega (arith, breaks.2, as_many)) breaks.3 short (sym breaks.4 ∙ behind.1) breaks.5

-- if what follows a tag breaks off in two ways, the error is the same
one_rest_error : (named : Bool) (n : ℕ) (bytes : List ℕ) (d e : BatchError) → RestBreaks named n bytes d → RestBreaks named n bytes e → d ≡ e
one_rest_error false n bytes d e x y = one_break x.0 y.0 x.1 y.1 d e x.3 y.3 (sym x.4 ∙ y.4) x.5 y.5
one_rest_error true n bytes d e (inl x) (inl y) = one_no_family bytes d e x y
one_rest_error true n bytes d e (inl x) (inr y) = absurd (no_family_error y.0 y.1 d y.2 (subst (λ (l : List ℕ). NoFamily l d) y.3 x))
one_rest_error true n bytes d e (inr x) (inl y) = absurd (no_family_error x.0 x.1 e x.2 (subst (λ (l : List ℕ). NoFamily l e) x.3 y))
one_rest_error true n bytes d e (inr x) (inr y) =
    let behind = one_family (Some x.0) (Some y.0) x.1 y.1 refl x.2 y.2 (sym x.3 ∙ y.3) in
    let u = x.4 in
    let w = y.4 in
    one_break u.0 w.0 u.1 w.1 d e u.3 w.3 (sym u.4 ∙ behind.1 ∙ w.4) u.5 w.5

-- Bytes that begin with a readable record have no error.
pub no_record_error : (bytes x : List ℕ) (r : Record) (e : BatchError) → IsReadable r → bytes ≡ record_bytes r ++ x → NoRecord bytes e → ⊥
no_record_error [] x r e readable is wrong = wrong
no_record_error (t ∷ bytes) x r e readable is (inl wrong) =
    let tag : t ≡ tag_of r = cc in
    let rest : bytes ≡ (family_bytes (named_by r) ++ flat_map varstring (strings_of r)) ++ x = cc in
    let broken : RestBreaks (is_some (named_by r)) (strings_after t) bytes e =
    subst (λ (b : Bool). RestBreaks b (strings_after t) bytes e) (ap names_family tag ∙ named_is r) wrong.1 in
    no_rest_error (named_by r) (strings_after t) (strings_of r) bytes x e readable.family readable.lengths (strings_are r ∙ ap strings_after (sym tag))
    (rest ∙ append_assoc (family_bytes (named_by r)) (flat_map varstring (strings_of r)) x) broken
no_record_error (t ∷ bytes) x r e readable is (inr wrong) =
    let tag : t ≡ tag_of r = cc in
    not_both (is_tag t) (subst (λ (u : ℕ). IsTrue (is_tag u)) (sym tag) readable.tag) wrong.0

-- Bytes have one error at most.
pub one_record_error : (bytes : List ℕ) (d e : BatchError) → NoRecord bytes d → NoRecord bytes e → d ≡ e
one_record_error [] d e x y = absurd x
one_record_error (t ∷ bytes) d e (inl x) (inl y) = one_rest_error (names_family t) (strings_after t) bytes d e x.1 y.1
one_record_error (t ∷ bytes) d e (inl x) (inr y) = absurd (not_both (is_tag t) x.0 y.0)
one_record_error (t ∷ bytes) d e (inr x) (inl y) = absurd (not_both (is_tag t) y.0 x.0)
one_record_error (t ∷ bytes) d e (inr x) (inr y) = x.1 ∙ sym y.1

-- ---- reading a record

-- What follows a tag, if the strings after the family break off.
pub rest_breaks : (named : Option ℕ) (b : Bool) (n : ℕ) (bytes strings : List ℕ) (e : BatchError) → is_some named ≡ b → IsSmall named → bytes ≡ family_bytes named ++ strings
    → StringsBreak n strings e → RestBreaks b n bytes e
rest_breaks None true n bytes strings e is small are broken = absurd (false≢true is)
rest_breaks None false n bytes strings e is small are broken = subst (λ (l : List ℕ). StringsBreak n l e) (sym are) broken
rest_breaks (Some f) true n bytes strings e is small are broken = inr (f, strings, small, are, broken)
rest_breaks (Some f) false n bytes strings e is small are broken = absurd (false≢true (sym is))

-- a tag after which a family follows is read
named_is_read-by : (a b c d e f g : Bool) → list_any (λ (x : Bool). x) (d ∷ e ∷ g ∷ []) ≡ true → list_any (λ (x : Bool). x) (a ∷ b ∷ c ∷ d ∷ e ∷ f ∷ g ∷ []) ≡ true
named_is_read-by true b c d e f g some = refl
named_is_read-by false true c d e f g some = refl
named_is_read-by false false true d e f g some = refl
named_is_read-by false false false true e f g some = refl
named_is_read-by false false false false true f g some = refl
named_is_read-by false false false false false true g some = refl
named_is_read-by false false false false false false true some = refl
named_is_read-by false false false false false false false some = absurd (false≢true some)

pub named_is_read : (t : ℕ) → names_family t ≡ true → is_tag t ≡ true
named_is_read t some = named_is_read-by (0 == t) (1 == t) (3 == t) (4 == t) (5 == t) (7 == t) (8 == t) some

-- a tag whose family can't be read
pub no_family : (bytes : List ℕ) (t : ℕ) (e : BatchError) → 0 < length bytes → get_or bytes 0 0 ≡ t → names_family t ≡ true → NoFamily (take (length bytes - 1) (drop 1 bytes)) e → NoRecord bytes e
no_family [] t e some tag named wrong = absurd (omega (arith, some))
no_family (u ∷ bytes) t e some tag named wrong = family_breaks u bytes t e tag named (subst (λ (l : List ℕ). NoFamily l e) (all_of u bytes) wrong)
  where
    all_of : (u : ℕ) (bytes : List ℕ) → take (length (u ∷ bytes) - 1) bytes ≡ bytes
    all_of u bytes = let rest : length (u ∷ bytes) - 1 ≡ length bytes = omega arith in ap (λ (n : ℕ). take n bytes) rest ∙ take-length bytes

    family_breaks : (u : ℕ) (bytes : List ℕ) (t : ℕ) (e : BatchError) → u ≡ t → names_family t ≡ true → NoFamily bytes e → NoRecord (u ∷ bytes) e
    family_breaks u bytes t e tag named wrong =
        subst (λ (v : ℕ). NoRecord (v ∷ bytes) e) (sym tag) (inl (named_is_read t named, subst (λ (b : Bool). RestBreaks b (strings_after t) bytes e) (sym named) (inl wrong)))

-- a tag whose strings break off
pub no_strings : (bytes strings : List ℕ) (t : ℕ) (named : Option ℕ) (whole : List (List ℕ)) (rest : List ℕ) (e : BatchError) → 0 < length bytes → get_or bytes 0 0 ≡ t
    → is_tag t ≡ true → is_some named ≡ names_family t → IsSmall named → take (length bytes - 1) (drop 1 bytes) ≡ family_bytes named ++ strings
    → length whole < strings_after t → AreShort whole → strings ≡ flat_map varstring whole ++ rest → NoVarstring rest e → NoRecord bytes e
no_strings [] strings t named whole rest e some tag is_one is small split fewer short are wrong = absurd (omega (arith, some))
no_strings (u ∷ bytes) strings t named whole rest e some tag is_one is small split fewer short are wrong =
    let left : length (u ∷ bytes) - 1 ≡ length bytes = omega arith in
    let behind : bytes ≡ family_bytes named ++ strings = sym (ap (λ (n : ℕ). take n bytes) left ∙ take-length bytes) ∙ split in
    let at_tag : NoRecord (t ∷ bytes) e = inl (is_one, rest_breaks named (names_family t) (strings_after t) bytes strings e is small behind (whole, rest, fewer, short, are, wrong)) in
    subst (λ (v : ℕ). NoRecord (v ∷ bytes) e) (sym tag) at_tag

-- The bytes begin with a tag, a family if one is named, and strings.
pub parts_in_front : (bytes strings : List ℕ) (t : ℕ) (named : Option ℕ) (all : List (List ℕ)) (rest : List ℕ) → 0 < length bytes → get_or bytes 0 0 ≡ t
    → take (length bytes - 1) (drop 1 bytes) ≡ family_bytes named ++ strings → strings ≡ flat_map varstring all ++ rest
    → bytes ≡ (t ∷ (family_bytes named ++ flat_map varstring all)) ++ rest
parts_in_front [] strings t named all rest some tag split are = absurd (omega (arith, some))
parts_in_front (u ∷ bytes) strings t named all rest some tag split are =
    let left : length (u ∷ bytes) - 1 ≡ length bytes = omega arith in
    let behind : bytes ≡ (family_bytes named ++ flat_map varstring all) ++ rest =
    sym (ap (λ (n : ℕ). take n bytes) left ∙ take-length bytes) ∙ split ∙ ap (λ (l : List ℕ). family_bytes named ++ l) are ∙ sym (append_assoc (family_bytes named) (flat_map varstring all) rest) in
    subst (λ (v : ℕ). u ∷ bytes ≡ (v ∷ (family_bytes named ++ flat_map varstring all)) ++ rest) tag (ap (λ (l : List ℕ). u ∷ l) behind)

-- The tags of records with two strings.
pub two_strings : (t : ℕ) → (t ≡ 1) ⊎ (t ≡ 5) → (is_tag t ≡ true) × (strings_after t ≡ 2)
two_strings t (inl e) = rw e (refl, refl)
two_strings t (inr e) = rw e (refl, refl)
