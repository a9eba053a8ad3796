-- How words are put together from pieces.
use Rattle.std.proofs.Common.{◌≡◌, ℕ, zero, suc, ◌/◌, ◌%◌, ◌<◌, List, [], ◌∷◌, ◌++◌, get_or, Bool, true, ◌&&◌, cond, Fits, w8, eqb-true, refl, ap, ◌∙◌, arith, inl, inr, Result, Ok, Err, OnOk}
use Rattle.std.specs.Prelude.{false, slice_index, ◌==◌}
use Rattle.std.specs.Fmt.{digit_glyph}
use Rattle.std.proofs.lemmas.Bool.{and_parts, cases_lt}
use Rattle.std.proofs.lemmas.List.{append_assoc}
use Rattle.hex.specs.Hex.{encode_with, encode_lower, lower_digits}
use Rattle.model_base.specs.Text.{hex}

-- a test that computes: a digit of the table is the digit of the text
abbrev is_glyph : ℕ → Bool
is_glyph d = slice_index lower_digits d == digit_glyph false d

abbrev are_glyphs : ℕ → Bool
are_glyphs zero = true
are_glyphs (suc n) = is_glyph n && are_glyphs n

glyph_below : (n d : ℕ) → are_glyphs n ≡ true → d < n → is_glyph d ≡ true
glyph_below zero d all lt = absurd (omega arith)
glyph_below (suc n) d all lt =
    let parts = and_parts (is_glyph n) (are_glyphs n) all in
    elim (cases_lt d n) [ inl below ↦ glyph_below n d parts.1 below | inr top ↦ let e : d ≡ n = omega arith in rw e parts.0 ]

-- the sixteen digits
glyph : (d : ℕ) → d < 16 → slice_index lower_digits d ≡ digit_glyph false d
glyph d lt = eqb-true _ _ (glyph_below 16 d refl lt)

-- what `hex::encode` writes of bytes
pub encoded : (bytes : List ℕ) → ((k : ℕ) → Fits w8 (get_or bytes k 0)) → encode_lower bytes ≡ hex bytes
unfolding encode_with
encoded [] small = refl
encoded (b ∷ bytes) small =
    let high = glyph (b / 16) (omega (arith, small 0)) in
    let low = glyph (b % 16) (omega arith) in
    rw (high, low) (ap (λ t. digit_glyph false (b / 16) ∷ digit_glyph false (b % 16) ∷ t) (encoded bytes (λ k. small (suc k))))

-- two pieces, where the first of two texts is wanted
pub two_pieces : (old a b first second other : List ℕ) (wanted : Bool) → wanted ≡ true → first ≡ old ++ a → second ≡ first ++ b → second ≡ old ++ cond wanted (a ++ b) other
two_pieces old a b first second other true is front back = back ∙ (ap (λ (t : List ℕ). t ++ b) front ∙ append_assoc old a b)
two_pieces old a b first second other false is front back = absurd (cc is)

pub three_pieces : (old a b c first second third : List ℕ) → first ≡ old ++ a → second ≡ first ++ b → third ≡ second ++ c → third ≡ old ++ ((a ++ b) ++ c)
three_pieces old a b c first second third x y z = z ∙ (ap (λ (t : List ℕ). t ++ c) (y ∙ (ap (λ (t : List ℕ). t ++ b) x ∙ append_assoc old a b)) ∙ append_assoc old (a ++ b) c)

-- what a call ensures where it works, from what it ensured
pub if_ok : {T E : Type 0} (r : Result T E) (A B : Type 0) → OnOk r A → (A → B) → OnOk r B
if_ok (Ok x) A B a f = f a
if_ok (Err e) A B a f = tt
