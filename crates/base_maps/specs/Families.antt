-- The maps of several column families, as one map.
use Rattle.std.specs.Prelude.{ℕ, ◌^◌, ◌<◌, ◌≤◌, List, length, map, flat_map}
use Rattle.std.specs.Ordering.{nat_cmp}
use Rattle.std.specs.List.{AllByRecursion}
use Rattle.std.specs.List.Sorted.{IsStrictlySortedBy}
use Rattle.std.specs.Map.{keys_of}
use Rattle.model_base.specs.Map.{Rows, Pairs, byte_order}

-- the pairs of a family
abbrev pub pairs_in : ℕ → Rows → Pairs
pairs_in family rows = map (λ r. (record { family = family; bytes = r.0 }, r.1)) rows

-- those of several families, one family after another
abbrev pub pairs_of : List (ℕ × Rows) → Pairs
pairs_of families = flat_map (λ f. pairs_in f.0 f.1) families

-- The families rise, each comes once, and the rows of each are in order.
pub record AreFamilies (families : List (ℕ × Rows)) : Type 0 where
  pub order : IsStrictlySortedBy nat_cmp (keys_of families)
  pub rows : AllByRecursion (λ (f : ℕ × Rows). IsStrictlySortedBy byte_order (keys_of f.1)) families

-- there are no more pairs than this number, and it fits
pub record AreFew (pairs : Pairs) (most : ℕ) : Type 0 where
  pub few : length pairs ≤ most
  pub fits : most < 2 ^ 64
