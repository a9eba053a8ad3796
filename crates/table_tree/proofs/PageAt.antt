-- The page below at a place: its chains are sorted, and it is lower.
use Rattle.std.proofs.Common.{◌≡◌, ℕ, zero, suc, ◌<◌, ◌≤◌, List, [], ◌∷◌, length, get_or, refl, subst, arith}
use Rattle.table_nodes.specs.Chains.{Chain, AreSorted}
use Rattle.table_nodes.specs.Nodes.{at_key}
use Rattle.table_tree.specs.Pages.{Branch, woven, height_of, IsSide, AreBelow}
use Rattle.table_tree.specs.Ranges.{page_at}
use Rattle.table_tree.proofs.Levels.{level_of, all_get}
use Rattle.table_tree.proofs.Starts.{sorted_at}

pub page_at_get : (below : List Branch) (at : ℕ) (d : Branch) → at < length below → page_at below at ≡ (get_or below at d).chains
page_at_get [] at d less = absurd (omega (arith, less))
page_at_get (b ∷ below) zero d less = refl
page_at_get (b ∷ below) (suc at) d less = page_at_get below at d (omega (arith, less))

pub page_at_none : (below : List Branch) (at : ℕ) → length below ≤ at → page_at below at ≡ []
page_at_none [] at past = refl
page_at_none (b ∷ below) zero past = absurd (omega (arith, past))
page_at_none (b ∷ below) (suc at) past = page_at_none below at (omega (arith, past))

-- a place of a page is a place among the entries
pub place_within : (n : ℕ) (below : List Branch) (at : ℕ) → AreBelow n below → at < length below → at ≤ n
place_within n [] at levels less = absurd (omega (arith, less))
place_within n (b ∷ below) at levels less = let same = levels.0 in omega (arith, same, less)

module _ (entries : List Chain) (below : List Branch) (at : ℕ) (d : Branch) (levels : AreBelow (length entries) below) (less : at < length below) where
  pub sorted_below : AreSorted (woven below entries) → AreSorted (get_or below at d).chains
  sorted_below sorted =
      subst AreSorted (page_at_get below at d less) (sorted_at (at_key 0 []) (at_key 0 []) below entries sorted at (place_within (length entries) below at levels less))

  pub lower_below : (get_or below at d).height < height_of below
  lower_below =
      let level = level_of (length entries) below levels (omega (arith, less)) in
      let side = (all_get (IsSide level.0) below at d less level.1.all).height in
      let height = level.1.height in
      omega (arith, side, height)

-- each page of a list is lower than what is above the list
pub lower_of : (below : List Branch) (at : ℕ) (d : Branch) → at < length below → (get_or below at d).height < height_of below
lower_of [] at d less = absurd (omega (arith, less))
lower_of (b ∷ below) zero d less = omega arith
lower_of (b ∷ below) (suc at) d less = let rest = lower_of below at d (omega (arith, less)) in omega (arith, rest)
