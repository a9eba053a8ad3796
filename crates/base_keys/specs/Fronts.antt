-- The front of a key: the first of its bytes, which are kept in place.
use Rattle.std.specs.Prelude.{ℕ, zero, suc, List, [], ◌∷◌}

-- the first n bytes, filled up with zeros if the list is shorter
abbrev pub front_of : ℕ → List ℕ → List ℕ
front_of zero bytes = []
front_of (suc n) [] = 0 ∷ front_of n []
front_of (suc n) (byte ∷ bytes) = byte ∷ front_of n bytes
