-- Lines whose pieces are put one after another.
use Rattle.std.proofs.Common.{◌≡◌, ℕ, List, [], ◌∷◌, ◌++◌, map, sym, ap, ◌∙◌}
use Rattle.std.specs.Prelude.{codes, decimal, flat_map}
use Rattle.std.specs.List.{join_with_byte}
use Rattle.std.proofs.lemmas.List.{append-nil, append_assoc}
use Rattle.model_base.specs.declared.log.Damage.{Damage}
use Rattle.model_base.specs.declared.log.Damage.TheVariants.{ShortHeader, Zeros, BadLength, BadType, BadChecksum, BadTrailer, OldLog}
use Rattle.model_base.specs.declared.log.EndReason.{EndReason}
use Rattle.model_base.specs.declared.log.EndReason.TheVariants as ends
use Rattle.model_base.specs.Text.{line, damage_words, end_words}
use Rattle.program_text.proofs.Words.{spaced}

three : (text a b e : List ℕ) → ((text ++ a) ++ b) ++ e ≡ text ++ ((a ++ b) ++ e)
three text a b e = simp append_assoc

-- a word and then numbers
pub line_pieces : (text w : List ℕ) (ns : List ℕ) → ((text ++ w) ++ flat_map (λ n. 32 ∷ decimal n) ns) ++ (10 ∷ []) ≡ text ++ line (w ∷ map decimal ns)
line_pieces text w ns = three text w (flat_map (λ n. 32 ∷ decimal n) ns) (10 ∷ []) ∙ ap (λ t. text ++ (t ++ (10 ∷ []))) (sym (spaced w ns))

four : (text a s b e : List ℕ) → (((text ++ a) ++ s) ++ b) ++ e ≡ text ++ ((a ++ (s ++ b)) ++ e)
four text a s b e = simp append_assoc

-- two words
pub two_words : (text a b : List ℕ) → (((text ++ a) ++ (32 ∷ [])) ++ b) ++ (10 ∷ []) ≡ text ++ line (a ∷ b ∷ [])
two_words text a b = four text a (32 ∷ []) b (10 ∷ [])

five : (text w s a v e : List ℕ) → ((((text ++ w) ++ ((s ++ a) ++ [])) ++ s) ++ v) ++ e ≡ text ++ ((w ++ (s ++ (a ++ (s ++ v)))) ++ e)
five text w s a v e = simp (append_assoc, append-nil)

-- a word, a number and a word
pub three_words : (text w a v : List ℕ) → ((((text ++ w) ++ ((32 ∷ a) ++ [])) ++ (32 ∷ [])) ++ v) ++ (10 ∷ []) ≡ text ++ line (w ∷ a ∷ v ∷ [])
three_words text w a v = five text w (32 ∷ []) a v (10 ∷ [])

behind_one : (text w s a v e : List ℕ) → (((text ++ w) ++ ((s ++ a) ++ [])) ++ s) ++ (v ++ e) ≡ text ++ ((w ++ (s ++ (a ++ (s ++ v)))) ++ e)
behind_one text w s a v e = simp (append_assoc, append-nil)

behind_two : (text w s a b v e : List ℕ) → (((text ++ w) ++ ((s ++ a) ++ ((s ++ b) ++ []))) ++ s) ++ (v ++ e) ≡ text ++ ((w ++ (s ++ (a ++ (s ++ (b ++ (s ++ v)))))) ++ e)
behind_two text w s a b v e = simp (append_assoc, append-nil)

-- words after a word and one number or two, where there are some
one_before : (text w a first : List ℕ) (rest : List (List ℕ)) → (((text ++ w) ++ ((32 ∷ a) ++ [])) ++ (32 ∷ [])) ++ line (first ∷ rest) ≡ text ++ line (w ∷ a ∷ first ∷ rest)
one_before text w a first rest = behind_one text w (32 ∷ []) a (join_with_byte 32 (first ∷ rest)) (10 ∷ [])

two_before : (text w a b first : List ℕ) (rest : List (List ℕ)) → (((text ++ w) ++ ((32 ∷ a) ++ ((32 ∷ b) ++ []))) ++ (32 ∷ [])) ++ line (first ∷ rest) ≡ text ++ line (w ∷ a ∷ b ∷ first ∷ rest)
two_before text w a b first rest = behind_two text w (32 ∷ []) a b (join_with_byte 32 (first ∷ rest)) (10 ∷ [])

damage_behind : (text w a : List ℕ) (damage : Damage) → (((text ++ w) ++ ((32 ∷ a) ++ [])) ++ (32 ∷ [])) ++ line (damage_words damage) ≡ text ++ line (w ∷ a ∷ damage_words damage)
damage_behind text w a ShortHeader = one_before text w a (codes "shortheader") []
damage_behind text w a Zeros = one_before text w a (codes "zeros") []
damage_behind text w a BadLength = one_before text w a (codes "badlength") []
damage_behind text w a (BadType t) = one_before text w a (codes "badtype") (decimal t ∷ [])
damage_behind text w a BadChecksum = one_before text w a (codes "badchecksum") []
damage_behind text w a BadTrailer = one_before text w a (codes "badtrailer") []
damage_behind text w a (OldLog n) = one_before text w a (codes "oldlog") (decimal n ∷ [])

-- a reason after a word and a number
pub reason_behind : (text w a : List ℕ) (why : EndReason) → (((text ++ w) ++ ((32 ∷ a) ++ [])) ++ (32 ∷ [])) ++ line (end_words why) ≡ text ++ line (w ∷ a ∷ end_words why)
reason_behind text w a ends.Clean = one_before text w a (codes "clean") []
reason_behind text w a (ends.Broken d) = damage_behind text w a d
reason_behind text w a ends.BadOrder = one_before text w a (codes "badorder") []
reason_behind text w a ends.Unfinished = one_before text w a (codes "unfinished") []
reason_behind text w a ends.Short = one_before text w a (codes "short") []
reason_behind text w a ends.BadVarint = one_before text w a (codes "badvarint") []
reason_behind text w a (ends.Tag t) = one_before text w a (codes "tag") (decimal t ∷ [])
reason_behind text w a (ends.Count said n) = one_before text w a (codes "count") (decimal said ∷ decimal n ∷ [])
reason_behind text w a (ends.Order first last) = one_before text w a (codes "order") (decimal first ∷ decimal last ∷ [])
reason_behind text w a (ends.High first count) = one_before text w a (codes "high") (decimal first ∷ decimal count ∷ [])

damage_behind_two : (text w a b : List ℕ) (damage : Damage) → (((text ++ w) ++ ((32 ∷ a) ++ ((32 ∷ b) ++ []))) ++ (32 ∷ [])) ++ line (damage_words damage) ≡ text ++ line (w ∷ a ∷ b ∷ damage_words damage)
damage_behind_two text w a b ShortHeader = two_before text w a b (codes "shortheader") []
damage_behind_two text w a b Zeros = two_before text w a b (codes "zeros") []
damage_behind_two text w a b BadLength = two_before text w a b (codes "badlength") []
damage_behind_two text w a b (BadType t) = two_before text w a b (codes "badtype") (decimal t ∷ [])
damage_behind_two text w a b BadChecksum = two_before text w a b (codes "badchecksum") []
damage_behind_two text w a b BadTrailer = two_before text w a b (codes "badtrailer") []
damage_behind_two text w a b (OldLog n) = two_before text w a b (codes "oldlog") (decimal n ∷ [])

-- a reason after a word and two numbers
pub reason_behind_two : (text w a b : List ℕ) (why : EndReason) → (((text ++ w) ++ ((32 ∷ a) ++ ((32 ∷ b) ++ []))) ++ (32 ∷ [])) ++ line (end_words why) ≡ text ++ line (w ∷ a ∷ b ∷ end_words why)
reason_behind_two text w a b ends.Clean = two_before text w a b (codes "clean") []
reason_behind_two text w a b (ends.Broken d) = damage_behind_two text w a b d
reason_behind_two text w a b ends.BadOrder = two_before text w a b (codes "badorder") []
reason_behind_two text w a b ends.Unfinished = two_before text w a b (codes "unfinished") []
reason_behind_two text w a b ends.Short = two_before text w a b (codes "short") []
reason_behind_two text w a b ends.BadVarint = two_before text w a b (codes "badvarint") []
reason_behind_two text w a b (ends.Tag t) = two_before text w a b (codes "tag") (decimal t ∷ [])
reason_behind_two text w a b (ends.Count said n) = two_before text w a b (codes "count") (decimal said ∷ decimal n ∷ [])
reason_behind_two text w a b (ends.Order first last) = two_before text w a b (codes "order") (decimal first ∷ decimal last ∷ [])
reason_behind_two text w a b (ends.High first count) = two_before text w a b (codes "high") (decimal first ∷ decimal count ∷ [])

-- a word and a number, and then a word and a number
pub pair_of_counts : (text w a v b : List ℕ) → ((text ++ w) ++ ((32 ∷ a) ++ [])) ++ ((32 ∷ v) ++ ((32 ∷ b) ++ (10 ∷ []))) ≡ text ++ line (w ∷ a ∷ v ∷ b ∷ [])
pair_of_counts text w a v b = seven text w (32 ∷ []) a v b (10 ∷ [])
  where
    seven : (text w s a v b e : List ℕ) → ((text ++ w) ++ ((s ++ a) ++ [])) ++ ((s ++ v) ++ ((s ++ b) ++ e)) ≡ text ++ ((w ++ (s ++ (a ++ (s ++ (v ++ (s ++ b)))))) ++ e)
    seven text w s a v b e = simp (append_assoc, append-nil)
