-- A page that is split in two.
use Rattle.std.specs.Prelude.{◌≡◌, ℕ, List, ◌∷◌, ◌++◌, length}
use Rattle.table_nodes.specs.Chains.{Chain}
use Rattle.table_tree.specs.Pages.{Branch, IsDense}

-- a full page's lower half, its middle entry, and its upper half
pub record IsSplit (whole low : Branch) (middle : Chain) (high : Branch) : Type 0 where
  pub chains : whole.chains ≡ low.chains ++ middle ∷ high.chains
  pub own : (low.own ≡ 15) × (high.own ≡ 15)
  pub height : (low.height ≡ whole.height) × (high.height ≡ whole.height)
  pub dense : IsDense low × IsDense high

-- The page at a place is split. `front` and `back` are the entries on its two sides, and `before` and `after` the pages
-- there.
pub record Splits (entries : List Chain) (below : List Branch) (at : ℕ) (new_entries : List Chain)
    (new_below : List Branch) : Type 0 where
  pub front : List Chain
  pub back : List Chain
  pub before : List Branch
  pub after : List Branch
  pub whole : Branch
  pub low : Branch
  pub middle : Chain
  pub high : Branch
  pub split : IsSplit whole low middle high
  pub places : (length front ≡ at) × (length before ≡ at)
  pub entries_were : entries ≡ front ++ back
  pub below_were : below ≡ before ++ whole ∷ after
  pub entries_are : new_entries ≡ front ++ middle ∷ back
  pub below_are : new_below ≡ before ++ low ∷ high ∷ after
