-- The line of a key in a family.
use Rattle.std.proofs.Common.{◌≡◌, ℕ, Bool, true, false, cond, ◌==◌, List, [], ◌∷◌, ◌++◌, codes, decimal, refl, sym, ap, ◌∙◌, append_assoc}
use Rattle.std.specs.List.{join_with_byte}
use Rattle.model_base.specs.Map.{key_at}
use Rattle.model_base.specs.Text.{line}
use Rattle.program_text.specs.ShownText.{row_line, family_front, pair_line}

-- a word before others, which are at least one
word_before : (word first : List ℕ) (words : List (List ℕ)) → (word ++ codes " ") ++ line (first ∷ words) ≡ line (word ∷ first ∷ words)
word_before word first words = append_assoc word (codes " ") (line (first ∷ words)) ∙ sym (append_assoc word (32 ∷ join_with_byte 32 (first ∷ words)) (10 ∷ []))

pair_is : (word : List ℕ → List ℕ) (family : ℕ) (key v : List ℕ) → family_front family ++ row_line word (key, v) ≡ pair_line word (key_at family key, v)
pair_is word family key v = by_family (family == 0)
  where
    by_family : (b : Bool) → cond b [] (decimal family ++ codes " ") ++ row_line word (key, v) ≡ line ((cond b [] (decimal family ∷ []) ++ word key ∷ []) ++ word v ∷ [])
    by_family true = refl
    by_family false = word_before (decimal family) (word key) (word v ∷ [])

-- the family's number was put, and then the row
pub behind_family : (text : List ℕ) (word : List ℕ → List ℕ) (family : ℕ) (key v : List ℕ) → (text ++ family_front family) ++ row_line word (key, v) ≡ text ++ pair_line word (key_at family key, v)
behind_family text word family key v = append_assoc text (family_front family) (row_line word (key, v)) ∙ ap (λ (t : List ℕ). text ++ t) (pair_is word family key v)
