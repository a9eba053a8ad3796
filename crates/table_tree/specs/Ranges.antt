-- The part of a page that has the keys of a range.
use Rattle.std.specs.Prelude.{◌≢◌, ℕ, zero, suc, ◌≤◌, List, [], ◌∷◌, take, drop, length}
use Rattle.std.specs.List.{AllByRecursion}
use Rattle.std.specs.declared.cmp.Ordering.TheVariants.{Greater}
use Rattle.model_base.specs.declared.key.Key.{Key}
use Rattle.model_base.specs.Map.{key_order}
use Rattle.table_nodes.specs.Chains.{Chain, key_of}
use Rattle.table_tree.specs.Pages.{Branch}
use Rattle.table_tree.specs.Places.{AreUnder}

-- the first entry that isn't below the key is the one at this place
pub record IsStart (key : Key) (entries : List Chain) (at : ℕ) : Type 0 where
  pub within : at ≤ length entries
  pub under : AreUnder key (take at entries)
  pub from : AllByRecursion (λ (c : Chain). key_order key (key_of c) ≢ Greater) (drop at entries)

-- the chains of the page at a place, or none where there is none
abbrev pub page_at : List Branch → ℕ → List Chain
page_at [] at = []
page_at (b ∷ below) zero = b.chains
page_at (b ∷ below) (suc at) = page_at below at
