-- Where a node goes in a page.
use Rattle.std.specs.Prelude.{◌≡◌, ℕ, ◌<◌, List, [], length, get_or, Result, MatchResult}
use Rattle.model_base.specs.declared.key.Key.{Key}
use Rattle.table_nodes.specs.Chains.{Chain}
use Rattle.table_tree.specs.Pages.{Branch}
use Rattle.table_tree.specs.Places.{IsEntry, IsPlace}

-- the page below that a node goes into isn't full, and a leaf that it goes into isn't either
pub record IsOpen (key : Key) (entries : List Chain) (below : List Branch) (at : ℕ) : Type 0 where
  pub place : IsPlace key entries at
  pub open_below : (d : Branch) → at < length below → (get_or below at d).own < 31
  pub open_leaf : below ≡ [] → length entries < 31

abbrev pub IsWay : Key → List Chain → List Branch → Result ℕ ℕ → Type 0
IsWay key entries below way = MatchResult way (IsEntry key entries) (IsOpen key entries below)
