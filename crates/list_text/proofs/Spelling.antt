-- How a text spells bytes, one after another.
use Rattle.std.proofs.Common.{◌≡◌, ℕ, ◌+◌, ◌-◌, ◌*◌, ◌<◌, List, [], ◌∷◌, ◌++◌, length, get_or, take, drop, Option, Some, None, Result, Ok, Err, MatchResult, refl, sym, ap, ◌∙◌, append_assoc, arith, cond, eqb, length-drop}
use Rattle.std.specs.Prelude.{⊤, option_map, option_and_then}
use Rattle.std.proofs.lemmas.Bool.Decides.{nat_tests}
use Rattle.std.proofs.lemmas.List.{take_all}
use Rattle.hex.specs.Hex.{decode_pairs, decode_sized, digit_or_error, hex_digit_value, ◌>>=◌}
use Rattle.hex.specs.declared.error.FromHexError.{FromHexError}
use Rattle.list_text.specs.Keys.{escaped, byte_of, spelled, text_key}

-- ---- `x` and two digits

pick_no : {T : Type 0} (n m : ℕ) (p q : T) → (n ≡ m → ⊥) → cond (eqb n m) p q ≡ q
pick_no n m p q other = grind (arith, nat_tests)

pick_yes : {T : Type 0} (n m : ℕ) (p q : T) → n ≡ m → cond (eqb n m) p q ≡ p
pick_yes n m p q same = grind (arith, nat_tests)

two_digits : (text : List ℕ) → 2 < length text → get_or text 0 0 ≡ 120
    → spelled escaped text ≡ option_and_then (λ byte. option_map (λ bytes. byte ∷ bytes) (text_key (drop 3 text))) (byte_of (get_or text 1 0) (get_or text 2 0))
two_digits [] some is = absurd (omega (arith, some))
two_digits (x ∷ []) some is = absurd (omega (arith, some))
two_digits (x ∷ high ∷ []) some is = absurd (omega (arith, some))
two_digits (x ∷ high ∷ low ∷ text) some is = pick_no x 92 _ _ (λ e. omega (arith, e, is)) ∙ pick_yes x 120 _ _ is

pub two_digits_read : (text : List ℕ) (byte : ℕ) → 2 < length text → get_or text 0 0 ≡ 120 → byte_of (get_or text 1 0) (get_or text 2 0) ≡ Some byte
    → spelled escaped text ≡ option_map (λ bytes. byte ∷ bytes) (text_key (take (length text - 3) (drop 3 text)))
two_digits_read text byte some is read =
    let all : take (length text - 3) (drop 3 text) ≡ drop 3 text = take_all (length text - 3) (drop 3 text) (omega (arith, length-drop 3 text)) in
    two_digits text some is ∙ (ap (λ (o : Option ℕ). option_and_then (λ b. option_map (λ bytes. b ∷ bytes) (text_key (drop 3 text))) o) read
    ∙ ap (λ (t : List ℕ). option_map (λ bytes. byte ∷ bytes) (text_key t)) (sym all))

-- ---- the byte of two digits

abbrev two : ℕ → ℕ → Option ℕ → Option ℕ → Result (List ℕ) FromHexError
two high low h l = (digit_or_error high 0 h >>= λ v. digit_or_error low 1 l >>= λ w. Ok (v * 16 + w)) >>= λ byte. Ok (byte ∷ [])

abbrev Read : ℕ → ℕ → Result ⊤ FromHexError → List ℕ → Option ℕ → Option ℕ → Type 0
Read high low r out h l = MatchResult (two high low h l) (λ bytes. (r ≡ Ok tt) × (out ≡ bytes)) (λ e. r ≡ Err e)

pub byte_read : (high low : ℕ) (r : Result ⊤ FromHexError) (out : List ℕ) → MatchResult (decode_sized (high ∷ low ∷ []) 1) (λ bytes. (r ≡ Ok tt) × (out ≡ bytes)) (λ e. r ≡ Err e)
    → r ≡ Ok tt → byte_of high low ≡ Some (get_or out 0 0)
unfolding decode_pairs
byte_read high low r out clause ok = go (hex_digit_value high) (hex_digit_value low) clause
  where
    go : (h l : Option ℕ) → Read high low r out h l → option_and_then (λ v. option_map (λ w. v * 16 + w) l) h ≡ Some (get_or out 0 0)
    go None l is = absurd (cc (is, ok))
    go (Some v) None is = absurd (cc (is, ok))
    go (Some v) (Some w) is = ap (λ (o : List ℕ). Some (get_or o 0 0)) (sym is.1)

pub byte_not_read : (high low : ℕ) (r : Result ⊤ FromHexError) (out : List ℕ) (e : FromHexError) → MatchResult (decode_sized (high ∷ low ∷ []) 1) (λ bytes. (r ≡ Ok tt) × (out ≡ bytes)) (λ e. r ≡ Err e)
    → r ≡ Err e → byte_of high low ≡ None
unfolding decode_pairs
byte_not_read high low r out e clause err = go (hex_digit_value high) (hex_digit_value low) clause
  where
    go : (h l : Option ℕ) → Read high low r out h l → option_and_then (λ v. option_map (λ w. v * 16 + w) l) h ≡ None
    go None l is = refl
    go (Some v) None is = refl
    go (Some v) (Some w) is = absurd (cc (is.0, err))

-- ---- the bytes so far, and those of the rest

pub one_more : (key : List ℕ) (byte : ℕ) (whole rest behind : Option (List ℕ)) → option_map (λ bytes. key ++ bytes) rest ≡ whole → rest ≡ option_map (λ bytes. byte ∷ bytes) behind
    → option_map (λ bytes. (key ++ byte ∷ []) ++ bytes) behind ≡ whole
one_more key byte whole rest None kept next = ap (λ (o : Option (List ℕ)). option_map (λ bytes. key ++ bytes) o) (sym next) ∙ kept
one_more key byte whole rest (Some b) kept next = ap Some (append_assoc key (byte ∷ []) b) ∙ (ap (λ (o : Option (List ℕ)). option_map (λ bytes. key ++ bytes) o) (sym next) ∙ kept)
