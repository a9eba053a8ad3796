-- A map whose pairs are in several parts, one after another.
use Rattle.std.specs.Prelude.{◌≡◌, ℕ, ◌+◌, ◌<◌, List, [], ◌∷◌, ◌++◌, length, take, drop, Option, Some, None}
use Rattle.std.specs.List.{AllByRecursion}
use Rattle.std.specs.List.Sorted.{IsStrictlySortedBy}
use Rattle.std.specs.Map.{keys_of}
use Rattle.model_base.specs.Map.{Rows, byte_order}
use Rattle.base_keys.specs.Fronts.{front_of}
use Rattle.base_maps.specs.Cuts.{AreBelow, AreAbove}

-- the pairs of all parts
abbrev pub all_in : List Rows → Rows
all_in [] = []
all_in (rows ∷ parts) = rows ++ all_in parts

-- no part is empty
abbrev pub AreFilled : List Rows → Type 0
AreFilled parts = AllByRecursion (λ rows. 0 < length rows) parts

-- the keys rise, and each comes once
abbrev pub AreInOrder : Rows → Type 0
AreInOrder rows = IsStrictlySortedBy byte_order (keys_of rows)

abbrev pub first_key_of : Rows → Option (List ℕ)
first_key_of [] = None
first_key_of (p ∷ rows) = Some p.0

-- the first bytes of the first key, where there is one
abbrev pub IsFrontOf : List ℕ → Rows → Type 0
IsFrontOf front [] = Unit {0}
IsFrontOf front (p ∷ rows) = front_of 16 p.0 ≡ front

-- What comes before the part at a place is below a key, and what comes after it is above the key. So the key is in this
-- part, if it is there.
pub record IsPartOf (key : List ℕ) (parts : List Rows) (at : ℕ) : Type 0 where
  pub within : at < length parts
  pub below : AreBelow key (all_in (take at parts))
  pub above : AreAbove key (all_in (drop (at + 1) parts))

-- what a part is after it was split, and the part of what came out of it, if it was split
abbrev pub HasSplit : Rows → Rows → Option Rows → Type 0
HasSplit old new None = new ≡ old
HasSplit old new (Some upper) = (old ≡ new ++ upper) × ((0 < length new) × (0 < length upper))

-- Parts of a map: none is empty, the keys of all rise, and this is how many pairs there are.
pub record AreParts (parts : List Rows) (count : ℕ) : Type 0 where
  pub filled : AreFilled parts
  pub order : AreInOrder (all_in parts)
  pub counted : count ≡ length (all_in parts)
