-- Numbers and flags as texts: what the typed getters read, and what clap takes.
use Rattle.std.proofs.Common.{◌≡◌, ◌≢◌, ◌∙◌, ◌^◌, ◌<◌, ◌≤◌, ◌&&◌, ◌==◌, ℕ, Bool, true, false, List, [], ◌∷◌, Option, Some, None, Result, cond, codes, refl, sym, ap, subst, arith}
use borrow.Author.Tests.{ne_eqb}
use Rattle.std.proofs.lemmas.Bool.{leb-true, ltb-true, lt-ltb}
use Rattle.std.proofs.lemmas.Fmt.{decimal_is_IsNumeral}
use Rattle.std.proofs.lemmas.Option.{option_and_then_some}
use Rattle.std.proofs.lemmas.Slice.Eq.{bytes_eq-Decides}
use Rattle.std.proofs.lemmas.Str.Parse.{digit_from_value}
use Rattle.std.specs.Char.{digit_value}
use Rattle.std.specs.List.{list_all}
use Rattle.std.specs.Option.{option_and_then}
use Rattle.std.specs.Prelude.{bytes_eq, decimal, is_some, nat_le, nat_lt}
use Rattle.std.specs.Str.Parse.{AllDigits, ExplainsUnsignedError, HasUnsignedDigitsIfOk, IsNumeral, ParsesBool, ParsesUnsigned, digits_value, without_leading_plus}
use Rattle.std.specs.declared.num.ParseIntError.{ParseIntError}
use Rattle.std.specs.declared.str.ParseBoolError.{ParseBoolError}
use Rattle.clap.specs.Lexer.{long_of, short_of}
use Rattle.clap.specs.ValueTests.{is_numeral, is_unsigned_in}
use Rattle.clap.specs.Words.{ReadsOne}
use Rattle.clap.proofs.WalkLemmas.{both}
use Rattle.model_base.specs.Script.{number_of, value_of_digits}
use Rattle.program_words.specs.Commands.{bool_of, whole_number}
use Rattle.program_words.specs.Lawful.{within}
use Rattle.program_words.proofs.Lists.{cond_cases, none_some, some_told}

digits_told : (ds : List ℕ) → list_all (λ d. nat_lt (digit_value d) 10) ds ≡ true → AllDigits 10 ds
digits_told [] e = tt
digits_told (d ∷ ds) e = let parts = both _ _ e in (ltb-true _ _ parts.0, digits_told ds parts.1)

digits_tested : (ds : List ℕ) → AllDigits 10 ds → list_all (λ d. nat_lt (digit_value d) 10) ds ≡ true
digits_tested [] h = refl
digits_tested (d ∷ ds) h = rw (lt-ltb (digit_value d) 10 h.0) (digits_tested ds h.1)

numeral_tested : (ds : List ℕ) → IsNumeral 10 ds → is_numeral ds ≡ true
numeral_tested ds h = rw (lt-ltb 0 _ h.0) (digits_tested ds h.1)

numeral_told : (ds : List ℕ) → is_numeral ds ≡ true → IsNumeral 10 ds
numeral_told ds e = let parts = both _ _ e in (ltb-true _ _ parts.0, digits_told ds parts.1)

-- ---- what the typed getters read

pub got : {T E : Type 0} (gives : List ℕ → Result T E → Type 0) (f : List ℕ → Option T) → ((t : List ℕ) (r : Option T) → ReadsOne gives t r → r ≡ f t)
    → (o : Option (List ℕ)) (r : Option T) → (o ≡ None → r ≡ None) → ((t : List ℕ) → o ≡ Some t → ReadsOne gives t r) → r ≡ option_and_then f o
got gives f reads None r none some = none refl
got gives f reads (Some t) r none some = reads t r (some t refl)

-- what `u64` reads from a text is the number that it says
pub read_number : (t : List ℕ) (r : Option ℕ) → ReadsOne {E = ParseIntError} (λ bs q. ParsesUnsigned 64 10 bs q × ExplainsUnsignedError 10 bs q × HasUnsignedDigitsIfOk bs q) t r
    → r ≡ whole_number t
read_number t (Some n) is = sym (rw (numeral_tested _ is.0.0.0, lt-ltb _ _ is.0.0.1) (ap Some (sym is.0.1)))
read_number t None is = go (is_numeral (without_leading_plus t)) refl (nat_lt (digits_value 10 (without_leading_plus t)) (2 ^ 64)) refl
  where
    go : (a : Bool) → is_numeral (without_leading_plus t) ≡ a → (b : Bool) → nat_lt (digits_value 10 (without_leading_plus t)) (2 ^ 64) ≡ b
        → None ≡ cond (a && b) (Some (digits_value 10 (without_leading_plus t))) None
    go false e b f = refl
    go true e false f = refl
    go true e true f = absurd (is.1.0 (numeral_told _ e, ltb-true _ _ f))

another : (text other : List ℕ) → text ≢ other → bytes_eq text other ≡ false
another text other apart = go (bytes_eq text other) refl
  where
    go : (b : Bool) → bytes_eq text other ≡ b → b ≡ false
    go false e = refl
    go true e = absurd (apart ((bytes_eq-Decides _ _).0 e))

pub read_flag : (t : List ℕ) (r : Option Bool) → ReadsOne {E = ParseBoolError} ParsesBool t r → r ≡ bool_of t
read_flag t (Some true) is = ap bool_of (sym is)
read_flag t (Some false) is = ap bool_of (sym is)
read_flag t None is = rw (another t (codes "true") is.1.0, another t (codes "false") is.1.1) refl

-- ---- what clap takes

-- the text is neither a flag nor an escape
pub record IsPlain (text : List ℕ) : Type 0 where
  pub not_escape : bytes_eq text (45 ∷ 45 ∷ []) ≡ false
  pub not_long : long_of text ≡ None
  pub not_short : short_of text ≡ None

of_digits : (text : List ℕ) (least most n : ℕ) → IsNumeral 10 text → digits_value 10 text ≡ n → n < 2 ^ 64 → (nat_le least n && nat_le n most) ≡ true
    → IsPlain text × (is_unsigned_in least most text ≡ true)
of_digits [] least most n numeral value fits in_range = absurd (omega (arith, numeral.0))
of_digits (d ∷ ds) least most n numeral value fits in_range =
    let digit = digit_from_value d numeral.1.0 in
    let no_hyphen : (d == 45) ≡ false = ne_eqb d 45 (λ e. let bad : 45 < 45 = omega (arith, digit.0, digit.1) in absurd (omega arith)) in
    let no_plus : (d == 43) ≡ false = ne_eqb d 43 (λ e. let bad : 45 < 45 = omega (arith, digit.0, digit.1) in absurd (omega arith)) in
    let plain : without_leading_plus (d ∷ ds) ≡ d ∷ ds = rw no_plus refl in
    let is_number : is_numeral (d ∷ ds) ≡ true = numeral_tested (d ∷ ds) numeral in
    let small : nat_lt n (2 ^ 64) ≡ true = lt-ltb n (2 ^ 64) fits in
    (record { not_escape = rw no_hyphen refl; not_long = rw no_hyphen refl; not_short = rw no_hyphen refl }, rw (plain, is_number, value, small) in_range)

-- a text that is taken as a lawful number is plain, and clap takes it too
pub number_passes : (text : List ℕ) (least most : ℕ) → is_some (within least most text) ≡ true → IsPlain text × (is_unsigned_in least most text ≡ true)
number_passes text least most e =
    let n = some_told (within least most text) e in
    let value = value_of_digits text in
    option_and_then_some (λ (m : ℕ). cond (nat_le least m && nat_le m most) (Some m) None) (number_of text) n.0 n.1
    (λ m says inside. cond_cases (nat_le least m && nat_le m most) (Some m) None (Some n.0) inside
    (λ fits same. cond_cases (bytes_eq text (decimal value) && nat_lt value (2 ^ 64)) (Some value) None (Some m) says
    (λ tests is.
    let parts = both (bytes_eq text (decimal value)) (nat_lt value (2 ^ 64)) tests in
    let text_is : text ≡ decimal value = (bytes_eq-Decides _ _).0 parts.0 in
    let small = ltb-true _ _ parts.1 in
    let numeral = decimal_is_IsNumeral value small in
    let value_is : value ≡ m = cc in
    of_digits text least most value (subst (IsNumeral 10) (sym text_is) numeral.0) (ap (digits_value 10) text_is ∙ numeral.1) small
    (subst (λ (k : ℕ). (nat_le least k && nat_le k most) ≡ true) (sym value_is) fits))
    (λ tests none. absurd (none_some none)))
    (λ unfit none. absurd (none_some none)))

-- a number that clap took is within its range
pub taken_in_range : (text : List ℕ) (least most n : ℕ) → is_unsigned_in least most text ≡ true → whole_number text ≡ Some n → (least ≤ n) × (n ≤ most)
taken_in_range text least most n pass whole =
    let ds = without_leading_plus text in
    let tests = both _ _ pass in
    let fits = both _ _ tests.1 in
    let within = both _ _ fits.1 in
    cond_cases (is_numeral ds && nat_lt (digits_value 10 ds) (2 ^ 64)) (Some (digits_value 10 ds)) None (Some n) whole
    (λ number is. let same : digits_value 10 ds ≡ n = cc in (subst (λ (m : ℕ). least ≤ m) same (leb-true _ _ within.0), subst (λ (m : ℕ). m ≤ most) same (leb-true _ _ within.1)))
    (λ other none. absurd (none_some none))
