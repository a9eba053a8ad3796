-- Numbers and flags as texts: what the typed getters read.
use Rattle.std.proofs.Common.{◌≡◌, ◌≢◌, ◌^◌, ◌&&◌, ℕ, Bool, true, false, List, [], ◌∷◌, Option, Some, None, Result, cond, codes, refl, sym, ap}
use Rattle.std.proofs.lemmas.Bool.{ltb-true, lt-ltb}
use Rattle.std.proofs.lemmas.Slice.Eq.{bytes_eq-Decides}
use Rattle.std.specs.Char.{digit_value}
use Rattle.std.specs.List.{list_all}
use Rattle.std.specs.Option.{option_and_then}
use Rattle.std.specs.Prelude.{bytes_eq, nat_lt}
use Rattle.std.specs.Str.Parse.{AllDigits, ExplainsUnsignedError, HasUnsignedDigitsIfOk, IsNumeral, ParsesBool, ParsesUnsigned, digits_value, without_leading_plus}
use Rattle.std.specs.declared.num.ParseIntError.{ParseIntError}
use Rattle.std.specs.declared.str.ParseBoolError.{ParseBoolError}
use Rattle.clap.specs.ValueTests.{is_numeral}
use Rattle.clap.specs.Words.{ReadsOne}
use Rattle.clap.proofs.WalkLemmas.{both}
use Rattle.list_words.specs.Texts.{bool_of, whole_number}

digits_told : (ds : List ℕ) → list_all (λ d. nat_lt (digit_value d) 10) ds ≡ true → AllDigits 10 ds
digits_told [] e = tt
digits_told (d ∷ ds) e = let parts = both _ _ e in (ltb-true _ _ parts.0, digits_told ds parts.1)

digits_tested : (ds : List ℕ) → AllDigits 10 ds → list_all (λ d. nat_lt (digit_value d) 10) ds ≡ true
digits_tested [] h = refl
digits_tested (d ∷ ds) h = rw (lt-ltb (digit_value d) 10 h.0) (digits_tested ds h.1)

numeral_tested : (ds : List ℕ) → IsNumeral 10 ds → is_numeral ds ≡ true
numeral_tested ds h = rw (lt-ltb 0 _ h.0) (digits_tested ds h.1)

numeral_told : (ds : List ℕ) → is_numeral ds ≡ true → IsNumeral 10 ds
numeral_told ds e = let parts = both _ _ e in (ltb-true _ _ parts.0, digits_told ds parts.1)

-- ---- what the typed getters read

pub got : {T E : Type 0} (gives : List ℕ → Result T E → Type 0) (f : List ℕ → Option T) → ((t : List ℕ) (r : Option T) → ReadsOne gives t r → r ≡ f t)
    → (o : Option (List ℕ)) (r : Option T) → (o ≡ None → r ≡ None) → ((t : List ℕ) → o ≡ Some t → ReadsOne gives t r) → r ≡ option_and_then f o
got gives f reads None r none some = none refl
got gives f reads (Some t) r none some = reads t r (some t refl)

-- what an unsigned type of this number of bits reads from a text is the number that it says
pub read_number : (bits : ℕ) (t : List ℕ) (r : Option ℕ) → ReadsOne {E = ParseIntError} (λ bs q. ParsesUnsigned bits 10 bs q × ExplainsUnsignedError 10 bs q × HasUnsignedDigitsIfOk bs q) t r
    → r ≡ whole_number bits t
read_number bits t (Some n) is = sym (rw (numeral_tested _ is.0.0.0, lt-ltb _ _ is.0.0.1) (ap Some (sym is.0.1)))
read_number bits t None is = go (is_numeral (without_leading_plus t)) refl (nat_lt (digits_value 10 (without_leading_plus t)) (2 ^ bits)) refl
  where
    go : (a : Bool) → is_numeral (without_leading_plus t) ≡ a → (b : Bool) → nat_lt (digits_value 10 (without_leading_plus t)) (2 ^ bits) ≡ b
        → None ≡ cond (a && b) (Some (digits_value 10 (without_leading_plus t))) None
    go false e b f = refl
    go true e false f = refl
    go true e true f = absurd (is.1.0 (numeral_told _ e, ltb-true _ _ f))

another : (text other : List ℕ) → text ≢ other → bytes_eq text other ≡ false
another text other apart = go (bytes_eq text other) refl
  where
    go : (b : Bool) → bytes_eq text other ≡ b → b ≡ false
    go false e = refl
    go true e = absurd (apart ((bytes_eq-Decides _ _).0 e))

pub read_flag : (t : List ℕ) (r : Option Bool) → ReadsOne {E = ParseBoolError} ParsesBool t r → r ≡ bool_of t
read_flag t (Some true) is = ap bool_of (sym is)
read_flag t (Some false) is = ap bool_of (sym is)
read_flag t None is = rw (another t (codes "true") is.1.0, another t (codes "false") is.1.1) refl
