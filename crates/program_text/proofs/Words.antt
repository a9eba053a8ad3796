-- How lines are put together from pieces.
use Rattle.std.proofs.Common.{◌≡◌, ℕ, zero, suc, ◌/◌, ◌%◌, ◌<◌, List, [], ◌∷◌, ◌++◌, map, get_or, Bool, true, ◌&&◌, Fits, w8, eqb-true, refl, sym, ap, ◌∙◌, arith, inl, inr}
use Rattle.std.specs.Prelude.{codes, decimal, flat_map, false, slice_index, ◌==◌, None, Some}
use Rattle.std.specs.List.{join_with_byte}
use Rattle.std.specs.Fmt.{digit_glyph}
use Rattle.std.proofs.lemmas.Bool.{and_parts, cases_lt}
use Rattle.std.proofs.lemmas.List.{append-nil, append_assoc}
use Rattle.std.proofs.lemmas.Grind.{flat_map-append}
use Rattle.hex.specs.Hex.{encode_with, encode_lower, lower_digits}
use Rattle.base_bytes.specs.declared.answers.Found.{Found}
use Rattle.base_bytes.specs.Answers.{found_value}
use Rattle.model_base.specs.Text.{line, hex, found_word, log_text}
use Rattle.program_text.specs.ShownText.{pair_words}

-- a word and then numbers, each after a space, are the words joined by spaces
pub spaced : (w : List ℕ) (ns : List ℕ) → join_with_byte 32 (w ∷ map decimal ns) ≡ w ++ flat_map (λ n. 32 ∷ decimal n) ns
spaced w [] = sym (append-nil w)
spaced w (n ∷ ns) = ap (λ t. w ++ 32 ∷ t) (spaced (decimal n) ns)

-- a word and then words, each after a space, are the words joined by spaces
pub spaced_words : (w : List ℕ) (ws : List (List ℕ)) → join_with_byte 32 (w ∷ ws) ≡ w ++ flat_map (λ v. 32 ∷ v) ws
spaced_words w [] = sym (append-nil w)
spaced_words w (v ∷ ws) = ap (λ t. w ++ 32 ∷ t) (spaced_words v ws)

-- a word, numbers and words, joined by spaces
spaced_numbers : (w : List ℕ) (ns : List ℕ) (ws : List (List ℕ)) → join_with_byte 32 (w ∷ map decimal ns ++ ws) ≡ (w ++ flat_map (λ n. 32 ∷ decimal n) ns) ++ flat_map (λ v. 32 ∷ v) ws
spaced_numbers w [] ws = spaced_words w ws ∙ ap (λ t. t ++ flat_map (λ v. 32 ∷ v) ws) (sym (append-nil w))
spaced_numbers w (n ∷ ns) ws =
    ap (λ t. w ++ 32 ∷ t) (spaced_numbers (decimal n) ns ws) ∙ sym (append_assoc w ((32 ∷ decimal n) ++ flat_map (λ m. 32 ∷ decimal m) ns) (flat_map (λ v. 32 ∷ v) ws))

length_pieces : (text w f l e : List ℕ) → (((text ++ w) ++ f) ++ l) ++ e ≡ text ++ ((w ++ (f ++ l)) ++ e)
length_pieces text w f l e = simp append_assoc

fault_more : (text w f l a b e : List ℕ) → (((text ++ w) ++ f) ++ l) ++ ((a ++ b) ++ e) ≡ text ++ (((w ++ (f ++ l)) ++ (a ++ (b ++ []))) ++ e)
fault_more text w f l a b e = simp (append_assoc, append-nil)

-- the line of the logs' lengths, without a fault and with one
pub log_pieces : (text : List ℕ) (full : List ℕ) (len : ℕ)
    → (((text ++ codes "log") ++ flat_map (λ n. 32 ∷ decimal n) full) ++ flat_map (λ n. 32 ∷ decimal n) (len ∷ [])) ++ (10 ∷ []) ≡ text ++ log_text (full ++ len ∷ []) None
log_pieces text full len =
    length_pieces text (codes "log") (flat_map (λ n. 32 ∷ decimal n) full) (flat_map (λ n. 32 ∷ decimal n) (len ∷ [])) (10 ∷ [])
    ∙ ap (λ t. text ++ ((codes "log" ++ t) ++ (10 ∷ []))) (sym (flat_map-append (λ n. 32 ∷ decimal n) full (len ∷ [])))
    ∙ ap (λ t. text ++ (t ++ (10 ∷ []))) (sym (spaced (codes "log") (full ++ len ∷ [])))

pub fault_pieces : (text : List ℕ) (full : List ℕ) (len count : ℕ)
    → (((text ++ codes "log") ++ flat_map (λ n. 32 ∷ decimal n) full) ++ flat_map (λ n. 32 ∷ decimal n) (len ∷ [])) ++ line (codes " fault" ∷ decimal count ∷ [])
    ≡ text ++ log_text (full ++ len ∷ []) (Some count)
fault_pieces text full len count =
    fault_more text (codes "log") (flat_map (λ n. 32 ∷ decimal n) full) (flat_map (λ n. 32 ∷ decimal n) (len ∷ [])) (codes " fault") (32 ∷ decimal count) (10 ∷ [])
    ∙ ap (λ t. text ++ (((codes "log" ++ t) ++ flat_map (λ v. 32 ∷ v) (codes "fault" ∷ decimal count ∷ [])) ++ (10 ∷ []))) (sym (flat_map-append (λ n. 32 ∷ decimal n) full (len ∷ [])))
    ∙ ap (λ t. text ++ (t ++ (10 ∷ []))) (sym (spaced_numbers (codes "log") (full ++ len ∷ []) (codes "fault" ∷ decimal count ∷ [])))

joined_more : (text w a b f e : List ℕ) → (((text ++ w) ++ (a ++ (b ++ []))) ++ f) ++ e ≡ text ++ ((w ++ (a ++ (b ++ f))) ++ e)
joined_more text w a b f e = simp (append_assoc, append-nil)

-- a line of a first word, two words after it, and more
pub counted_words : (text w a b : List ℕ) (ws : List (List ℕ)) → (((text ++ w) ++ ((32 ∷ a) ++ ((32 ∷ b) ++ []))) ++ flat_map (λ v. 32 ∷ v) ws) ++ (10 ∷ []) ≡ text ++ line (w ∷ a ∷ b ∷ ws)
counted_words text w a b ws =
    joined_more text w (32 ∷ a) (32 ∷ b) (flat_map (λ v. 32 ∷ v) ws) (10 ∷ []) ∙ ap (λ t. text ++ (t ++ (10 ∷ []))) (sym (spaced_words w (a ∷ b ∷ ws)))

-- the words of what was found, each after a space
pub found_words : (items : List Found) → flat_map (λ v. 32 ∷ found_word (found_value v)) items ≡ flat_map (λ w. 32 ∷ w) (map found_word (map found_value items))
found_words [] = refl
found_words (v ∷ vs) = ap (λ t. (32 ∷ found_word (found_value v)) ++ t) (found_words vs)

-- the words of records, each after a space
pub record_words : (items : List (List ℕ)) → flat_map (λ r. 32 ∷ hex r) items ≡ flat_map (λ w. 32 ∷ w) (map hex items)
record_words [] = refl
record_words (r ∷ rs) = ap (λ t. (32 ∷ hex r) ++ t) (record_words rs)

-- the words of pairs, each after a space
pub row_words : (pairs : List (List ℕ × List ℕ)) → flat_map (λ p. flat_map (λ w. 32 ∷ w) (pair_words p)) pairs ≡ flat_map (λ w. 32 ∷ w) (flat_map pair_words pairs)
row_words [] = refl
row_words (p ∷ ps) = ap (λ t. flat_map (λ w. 32 ∷ w) (pair_words p) ++ t) (row_words ps) ∙ sym (flat_map-append (λ w. 32 ∷ w) (pair_words p) (flat_map pair_words ps))

-- a test that computes: a digit of the table is the digit of the text
abbrev is_glyph : ℕ → Bool
is_glyph d = slice_index lower_digits d == digit_glyph false d

abbrev are_glyphs : ℕ → Bool
are_glyphs zero = true
are_glyphs (suc n) = is_glyph n && are_glyphs n

glyph_below : (n d : ℕ) → are_glyphs n ≡ true → d < n → is_glyph d ≡ true
glyph_below zero d all lt = absurd (omega arith)
glyph_below (suc n) d all lt =
    let parts = and_parts (is_glyph n) (are_glyphs n) all in
    elim (cases_lt d n) [ inl below ↦ glyph_below n d parts.1 below | inr top ↦ let e : d ≡ n = omega arith in rw e parts.0 ]

-- the sixteen digits
glyph : (d : ℕ) → d < 16 → slice_index lower_digits d ≡ digit_glyph false d
glyph d lt = eqb-true _ _ (glyph_below 16 d refl lt)

-- what `hex::encode` writes of bytes
pub encoded : (bytes : List ℕ) → ((k : ℕ) → Fits w8 (get_or bytes k 0)) → encode_lower bytes ≡ hex bytes
unfolding encode_with
encoded [] small = refl
encoded (b ∷ bytes) small =
    let high = glyph (b / 16) (omega (arith, small 0)) in
    let low = glyph (b % 16) (omega arith) in
    rw (high, low) (ap (λ t. digit_glyph false (b / 16) ∷ digit_glyph false (b % 16) ∷ t) (encoded bytes (λ k. small (suc k))))

-- pieces put one after another, with `s` between words and `e` at the end
joined : (text a b c d f h s e : List ℕ) → ((((((text ++ a) ++ ((s ++ b) ++ ((s ++ c) ++ ((s ++ d) ++ [])))) ++ s) ++ f) ++ s) ++ h) ++ e ≡ text ++ ((a ++ (s ++ (b ++ (s ++ (c ++ (s ++ (d ++ (s ++ (f ++ (s ++ h)))))))))) ++ e)
joined text a b c d f h s e = simp (append_assoc, append-nil)

-- the pieces of a batch's line
pub entry_pieces : (text a b c d f h : List ℕ) → ((((((text ++ a) ++ ((32 ∷ b) ++ ((32 ∷ c) ++ ((32 ∷ d) ++ [])))) ++ (32 ∷ [])) ++ f) ++ (32 ∷ [])) ++ h) ++ (10 ∷ []) ≡ text ++ line (a ∷ b ∷ c ∷ d ∷ f ∷ h ∷ [])
entry_pieces text a b c d f h = joined text a b c d f h (32 ∷ []) (10 ∷ [])

-- the digits of a piece and of what comes after it
pub hex_parts : (done piece rest both all : List ℕ) → both ≡ piece ++ rest → done ++ hex both ≡ hex all → (done ++ hex piece) ++ hex rest ≡ hex all
hex_parts done piece rest both all is whole =
    append_assoc done (hex piece) (hex rest) ∙ ap (λ t. done ++ t) (sym (flat_map-append (λ b. digit_glyph false (b / 16) ∷ digit_glyph false (b % 16) ∷ []) piece rest) ∙ ap hex (sym is)) ∙ whole
