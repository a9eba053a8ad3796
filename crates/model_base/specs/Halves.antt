-- A list in two: its first item alone, and the others.
use Rattle.std.specs.Prelude.{List, [], ◌∷◌}

abbrev pub first_only : {A : Type 0} → List A → List A
first_only [] = []
first_only (x ∷ xs) = x ∷ []

abbrev pub all_but_first : {A : Type 0} → List A → List A
all_but_first [] = []
all_but_first (x ∷ xs) = xs
