-- In which families the halves of a page are: in sorted chains the families don't fall.
use Rattle.std.proofs.Common.{◌≡◌, ℕ, ◌≤◌, List, [], ◌∷◌, ◌++◌, refl, sym, arith}
use Rattle.std.proofs.lemmas.Cmp.{ranked}
use Rattle.std.specs.List.{AllByRecursion}
use Rattle.std.specs.Ordering.{nat_cmp, ordering_then}
use Rattle.std.specs.declared.cmp.Ordering.{Ordering}
use Rattle.std.specs.declared.cmp.Ordering.TheVariants.{Less, Equal, Greater}
use Rattle.model_base.specs.declared.key.Key.{Key}
use Rattle.model_base.specs.Map.{key_order, byte_order}
use Rattle.table_nodes.specs.Chains.{Chain, key_of, chain_order, AreSorted}
use Rattle.table_tree.specs.Places.{IsOfFamilies}
use Rattle.table_tree.proofs.Order.{all_front, all_back, before_middle, sorted_back}
use Rattle.table_tree.proofs.Keyed.{first_sorted}

-- a key below another is of no later family
families_rise : (k l : Key) → key_order k l ≡ Less → k.family ≤ l.family
families_rise k l less = go (nat_cmp k.family l.family) refl less
  where
    go : (o : Ordering) → nat_cmp k.family l.family ≡ o → ordering_then o (byte_order k.bytes l.bytes) ≡ Less → k.family ≤ l.family
    go Less e p = let below = ranked k.family l.family Less (sym e) in omega arith
    go Equal e p = let same = ranked k.family l.family Equal (sym e) in omega arith
    go Greater e p = absurd (cc)

module _ (lowest greatest : ℕ) (front : List Chain) (m : Chain) (back : List Chain) (sorted : AreSorted (front ++ m ∷ back))
    (all : AllByRecursion (IsOfFamilies lowest greatest) (front ++ m ∷ back)) where
  both : (P Q R : Chain → Type 0) → ((c : Chain) → P c → Q c → R c) → (l : List Chain) → AllByRecursion P l → AllByRecursion Q l → AllByRecursion R l
  both P Q R f [] a b = tt
  both P Q R f (c ∷ l) a b = (f c a.0 b.0, both P Q R f l a.1 b.1)

  -- those before the middle one, and those after it
  pub lower_families : AllByRecursion (IsOfFamilies lowest (key_of m).family) front
  lower_families =
      both (IsOfFamilies lowest greatest) (λ c. chain_order c m ≡ Less) (IsOfFamilies lowest (key_of m).family) (λ c q less. (q.0, families_rise (key_of c) (key_of m) less)) front
      (all_front (IsOfFamilies lowest greatest) front (m ∷ back) all) (before_middle chain_order front m back sorted)

  pub upper_families : AllByRecursion (IsOfFamilies (key_of m).family greatest) back
  upper_families =
      both (IsOfFamilies lowest greatest) (λ c. chain_order m c ≡ Less) (IsOfFamilies (key_of m).family greatest) (λ c q less. (families_rise (key_of m) (key_of c) less, q.1)) back
      (all_back (IsOfFamilies lowest greatest) front (m ∷ back) all).1 (first_sorted m back (sorted_back chain_order front (m ∷ back) sorted)).0
