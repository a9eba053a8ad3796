-- The parts of a text between separators.
use Rattle.std.specs.Prelude.{ℕ, ◌+◌, ◌&&◌, ◌==◌, List, [], ◌∷◌, length, Option, Some, None, if◌then◌else◌}
use Rattle.std.specs.List.{slice_split}
use Rattle.model_base.specs.Script.{is_word}

-- the parts of what comes after a separator, where there is one
abbrev pub parts_of : ℕ → Option (List ℕ) → List (List ℕ)
parts_of separator None = []
parts_of separator (Some text) = slice_split (λ b. b == separator) text

-- how many bytes come after a separator, with the separator
abbrev pub len_behind : Option (List ℕ) → ℕ
len_behind None = 0
len_behind (Some text) = length text + 1

-- one word, where there is no other
abbrev pub alone : List (List ℕ) → Option (List ℕ)
alone [] = None
alone (w ∷ []) = if is_word w then Some w else None
alone (w ∷ v ∷ ws) = None

-- two words, where there is no other
abbrev pub pair_alone : List (List ℕ) → Option (List ℕ × List ℕ)
pair_alone [] = None
pair_alone (w ∷ []) = None
pair_alone (w ∷ v ∷ []) = if is_word w && is_word v then Some (w, v) else None
pair_alone (w ∷ v ∷ u ∷ ws) = None
