-- Where a key is among pairs, and where pairs are cut in two.
use Rattle.std.specs.Prelude.{◌≡◌, ℕ, ◌<◌, List, [], ◌∷◌, ◌++◌, length, Option, Some, None}
use Rattle.std.specs.declared.cmp.Ordering.TheVariants.{Less, Greater}
use Rattle.std.specs.List.{AllByRecursion}
use Rattle.std.specs.Map.{keys_of}
use Rattle.model_base.specs.Map.{Rows, byte_order}
use Rattle.base_maps.specs.Words.{bytes_of_pairs, IsShort}

-- the keys of these pairs are below a key, or above it
abbrev pub AreBelow : List ℕ → Rows → Type 0
AreBelow key rows = AllByRecursion (λ k. byte_order key k ≡ Greater) (keys_of rows)

abbrev pub AreAbove : List ℕ → Rows → Type 0
AreAbove key rows = AllByRecursion (λ k. byte_order key k ≡ Less) (keys_of rows)

-- the pair of a key that has a value, and none of one that has none
abbrev pub own_pair : List ℕ → Option (List ℕ) → Rows
own_pair key None = []
own_pair key (Some value) = (key, value) ∷ []

-- What the key's value is among the pairs, and the bytes of the pairs before the key and of those after it.
pub record IsPlace (key : List ℕ) (rows : Rows) (front : List ℕ) (value : Option (List ℕ)) (back : List ℕ)
    : Type 0 where
  pub before : Rows
  pub after : Rows
  pub parts : rows ≡ before ++ (own_pair key value ++ after)
  pub short : AllByRecursion IsShort rows
  pub below : AreBelow key before
  pub above : AreAbove key after
  pub front_is : front ≡ bytes_of_pairs before
  pub back_is : back ≡ bytes_of_pairs after

-- the first of some pairs have `at` bytes, and neither they nor the others are none
pub record IsCutAfter (rows : Rows) (at : ℕ) : Type 0 where
  pub before : Rows
  pub after : Rows
  pub parts : rows ≡ before ++ after
  pub some : 0 < length before
  pub others : 0 < length after
  pub at_is : at ≡ length (bytes_of_pairs before)
