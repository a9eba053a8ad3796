-- What a search in a page learns at each step.
use Rattle.std.proofs.Common.{◌≡◌, ℕ, zero, suc, ◌<◌, List, [], ◌∷◌, ◌++◌, length, take, drop, get_or, sym, subst, arith}
use Rattle.std.specs.List.{AllByRecursion}
use Rattle.std.specs.List.Sorted.{IsStrictlySortedBy}
use Rattle.std.specs.declared.cmp.Ordering.TheVariants.{Less, Greater}
use Rattle.model_base.specs.declared.key.Key.{Key}
use Rattle.model_base.specs.Map.{key_order}
use Rattle.table_nodes.specs.Chains.{Chain, key_of, chain_order, AreSorted}
use Rattle.table_tree.specs.Pages.{Branch, woven}
use Rattle.table_tree.specs.Places.{AreUnder, AreOver}
use Rattle.table_tree.proofs.Order.{all_back, sorted_back}
use Rattle.table_tree.proofs.Weaving.{around}
use Rattle.table_tree.proofs.Searching.{under_front, over_back}

-- what holds of all chains of a page holds of those of its entries
pub all_entries : (P : Chain → Type 0) (below : List Branch) (entries : List Chain) → AllByRecursion P (woven below entries) → AllByRecursion P entries
all_entries P [] entries a = a
all_entries P (b ∷ below) [] a = tt
all_entries P (b ∷ below) (e ∷ entries) a =
    let rest = all_back P b.chains (e ∷ woven below entries) a in
    (rest.0, all_entries P below entries rest.1)

pub sorted_entries : (below : List Branch) (entries : List Chain) → AreSorted (woven below entries) → AreSorted entries
unfolding IsStrictlySortedBy
sorted_entries [] entries s = s
sorted_entries (b ∷ below) [] s = tt
sorted_entries (b ∷ below) (e ∷ entries) s =
    let rest = sorted_back chain_order b.chains (e ∷ woven below entries) s in
    (all_entries (λ d. chain_order e d ≡ Less) below entries rest.0, sorted_entries below entries rest.1)

module _ (key : Key) (entries : List Chain) (m : ℕ) (d : Chain) (within : m < length entries) (sorted : AreSorted entries) where
  parted : AreSorted (take m entries ++ get_or entries m d ∷ drop (suc m) entries)
  parted = subst AreSorted (sym (around entries m d within)) sorted

  -- the key is above an entry
  pub place_above : key_order key (key_of (get_or entries m d)) ≡ Greater → AreUnder key (take (suc m) entries)
  place_above p = more entries m within (under_front key (take m entries) (drop (suc m) entries) (get_or entries m d) parted p) p
    where
      more : (xs : List Chain) (i : ℕ) → i < length xs → AreUnder key (take i xs) → key_order key (key_of (get_or xs i d)) ≡ Greater → AreUnder key (take (suc i) xs)
      more [] i less a q = absurd (omega (arith, less))
      more (x ∷ xs) zero less a q = (q, tt)
      more (x ∷ xs) (suc i) less a q = (a.0, more xs i (omega (arith, less)) a.1 q)

  -- the key is below an entry
  pub place_below : key_order key (key_of (get_or entries m d)) ≡ Less → AreOver key (drop m entries)
  place_below p = at entries m within (over_back key (get_or entries m d) (drop (suc m) entries) (sorted_back chain_order (take m entries) (get_or entries m d ∷ drop (suc m) entries) parted) p)
    where
      at : (xs : List Chain) (i : ℕ) → i < length xs → AreOver key (get_or xs i d ∷ drop (suc i) xs) → AreOver key (drop i xs)
      at [] i less a = absurd (omega (arith, less))
      at (x ∷ xs) zero less a = a
      at (x ∷ xs) (suc i) less a = at xs i (omega (arith, less)) a
