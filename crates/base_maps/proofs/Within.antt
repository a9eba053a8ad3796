-- A change of some pairs in the middle is the same change of all of them, if what is before them is below the key and
-- what is after them is above it.
use Rattle.std.proofs.Common.{◌≡◌, Bool, List, [], ◌∷◌, ◌++◌, refl, ◌∙◌, ap, cond, true, false, Option, Some, None}
use Rattle.std.specs.declared.cmp.Ordering.{Ordering}
use Rattle.std.specs.declared.cmp.Ordering.TheVariants.{Less, Equal, Greater}
use Rattle.std.specs.Ordering.{is_eq, match_ordering, ordering_reverse}
use Rattle.std.specs.Cmp.{IsTotalOrder}
use Rattle.std.specs.List.{AllByRecursion}
use Rattle.std.specs.List.Sorted.{IsStrictlySortedBy}
use Rattle.std.specs.Map.{keys_of, lookup, remove_entry}
use Rattle.std.specs.BTreeMap.{insert_entry, is_at}

module _ {K : Type 0} (R : K → K → Ordering) (o : IsTotalOrder R) where
  turned : (x y : K) (r : Ordering) → R x y ≡ r → R y x ≡ ordering_reverse r
  turned x y r e = o.antisymm y x ∙ ap ordering_reverse e

  pub above : (x y z : K) → R x y ≡ Greater → R y z ≡ Greater → R x z ≡ Greater
  above x y z e f = o.antisymm x z ∙ ap ordering_reverse (o.trans z y x (turned y z Greater f) (turned x y Greater e))

  -- what is above y is also above an x below y, and above an x that is the same
  pub all_past : (x y : K) (l : List K) → R x y ≡ Less → AllByRecursion (λ k. R y k ≡ Less) l → AllByRecursion (λ k. R x k ≡ Less) l
  all_past x y [] e a = tt
  all_past x y (k ∷ l) e a = (o.trans x y k e a.0, all_past x y l e a.1)

  pub all_same : (x y : K) (l : List K) → R x y ≡ Equal → AllByRecursion (λ k. R y k ≡ Less) l → AllByRecursion (λ k. R x k ≡ Less) l
  all_same x y [] e a = tt
  all_same x y (k ∷ l) e a = (o.congr x y k e ∙ a.0, all_same x y l e a.1)

  module _ {V : Type 0} where
    abbrev pub Below : K → List (K × V) → Type 0
    Below k l = AllByRecursion (λ key. R k key ≡ Greater) (keys_of l)

    abbrev pub Above : K → List (K × V) → Type 0
    Above k l = AllByRecursion (λ key. R k key ≡ Less) (keys_of l)

    -- ---- an insertion

    put_past : (a m : List (K × V)) (k : K) (v : V) → Below k a → insert_entry R (a ++ m) k v ≡ a ++ insert_entry R m k v
    put_past [] m k v below = refl
    put_past (p ∷ a) m k v below = rw below.0 (ap (λ (l : List (K × V)). p ∷ l) (put_past a m k v below.1))

    put_first : (c : List (K × V)) (k : K) (v : V) → Above k c → insert_entry R c k v ≡ (k, v) ∷ c
    put_first [] k v above = refl
    put_first (q ∷ c) k v above = rw above.0 refl

    put_before : (m c : List (K × V)) (k : K) (v : V) → Above k c → insert_entry R (m ++ c) k v ≡ insert_entry R m k v ++ c
    put_before [] c k v above = put_first c k v above
    put_before (p ∷ m) c k v above =
        elim (R k p.0) as (λ r. match_ordering r ((k, v) ∷ p ∷ (m ++ c)) ((p.0, v) ∷ (m ++ c)) (p ∷ insert_entry R (m ++ c) k v)
        ≡ match_ordering r ((k, v) ∷ p ∷ m) ((p.0, v) ∷ m) (p ∷ insert_entry R m k v) ++ c) [
          | Less ↦ refl
          | Equal ↦ refl
          | Greater ↦ ap (λ (l : List (K × V)). p ∷ l) (put_before m c k v above)
        ]

    pub put_within : (a m c : List (K × V)) (k : K) (v : V) → Below k a → Above k c
        → insert_entry R (a ++ (m ++ c)) k v ≡ a ++ (insert_entry R m k v ++ c)
    put_within a m c k v under over =
        put_past a (m ++ c) k v under ∙ ap (λ (l : List (K × V)). a ++ l) (put_before m c k v over)

    -- ---- a removal

    cut_past : (a m : List (K × V)) (k : K) → Below k a → remove_entry (is_at (R k)) (a ++ m) ≡ a ++ remove_entry (is_at (R k)) m
    cut_past [] m k below = refl
    cut_past (p ∷ a) m k below = rw (ap is_eq below.0) (ap (λ (l : List (K × V)). p ∷ l) (cut_past a m k below.1))

    none_cut : (c : List (K × V)) (k : K) → Above k c → remove_entry (is_at (R k)) c ≡ c
    none_cut [] k above = refl
    none_cut (q ∷ c) k above = rw (ap is_eq above.0) (ap (λ (l : List (K × V)). q ∷ l) (none_cut c k above.1))

    cut_before : (m c : List (K × V)) (k : K) → Above k c → remove_entry (is_at (R k)) (m ++ c) ≡ remove_entry (is_at (R k)) m ++ c
    cut_before [] c k above = none_cut c k above
    cut_before (p ∷ m) c k above =
        elim (is_eq (R k p.0)) as (λ b. cond b (m ++ c) (p ∷ remove_entry (is_at (R k)) (m ++ c)) ≡ cond b m (p ∷ remove_entry (is_at (R k)) m) ++ c) [
          | true ↦ refl
          | false ↦ ap (λ (l : List (K × V)). p ∷ l) (cut_before m c k above)
        ]

    pub cut_within : (a m c : List (K × V)) (k : K) → Below k a → Above k c
        → remove_entry (is_at (R k)) (a ++ (m ++ c)) ≡ a ++ (remove_entry (is_at (R k)) m ++ c)
    cut_within a m c k under over =
        cut_past a (m ++ c) k under ∙ ap (λ (l : List (K × V)). a ++ l) (cut_before m c k over)

    -- ---- a look-up

    find_past : (a m : List (K × V)) (k : K) → Below k a → lookup (is_at (R k)) (a ++ m) ≡ lookup (is_at (R k)) m
    find_past [] m k below = refl
    find_past (p ∷ a) m k below = rw (ap is_eq below.0) (find_past a m k below.1)

    none_found : (c : List (K × V)) (k : K) → Above k c → lookup (is_at (R k)) c ≡ None
    none_found [] k above = refl
    none_found (q ∷ c) k above = rw (ap is_eq above.0) (none_found c k above.1)

    find_before : (m c : List (K × V)) (k : K) → Above k c → lookup (is_at (R k)) (m ++ c) ≡ lookup (is_at (R k)) m
    find_before [] c k above = none_found c k above
    find_before (p ∷ m) c k above =
        ap (λ (x : Option V). cond (is_eq (R k p.0)) (Some p.1) x) (find_before m c k above)

    pub find_within : (a m c : List (K × V)) (k : K) → Below k a → Above k c
        → lookup (is_at (R k)) (a ++ (m ++ c)) ≡ lookup (is_at (R k)) m
    find_within a m c k under over = find_past a (m ++ c) k under ∙ find_before m c k over

    -- ---- what holds of all keys

    all_inserted-by : (P : K → Type 0) (k : K) (v : V) (q : K × V) (l : List (K × V)) (r : Ordering) → R k q.0 ≡ r → P k
        → AllByRecursion P (keys_of (q ∷ l)) → AllByRecursion P (keys_of (insert_entry R l k v))
        → AllByRecursion P (keys_of (insert_entry R (q ∷ l) k v))
    all_inserted-by P k v q l Less e here all more = rw e (here, all)
    all_inserted-by P k v q l Equal e here all more = rw e all
    all_inserted-by P k v q l Greater e here all more = rw e (all.0, more)

    pub all_inserted : (P : K → Type 0) (k : K) (v : V) (l : List (K × V)) → P k → AllByRecursion P (keys_of l)
        → AllByRecursion P (keys_of (insert_entry R l k v))
    all_inserted P k v [] here all = (here, tt)
    all_inserted P k v (q ∷ l) here all = all_inserted-by P k v q l (R k q.0) refl here all (all_inserted P k v l here all.1)

    all_removed-by : (P : K → Type 0) (k : K) (q : K × V) (l : List (K × V)) (b : Bool) → is_eq (R k q.0) ≡ b
        → AllByRecursion P (keys_of (q ∷ l)) → AllByRecursion P (keys_of (remove_entry (is_at (R k)) l))
        → AllByRecursion P (keys_of (remove_entry (is_at (R k)) (q ∷ l)))
    all_removed-by P k q l true e all more = rw e all.1
    all_removed-by P k q l false e all more = rw e (all.0, more)

    pub all_removed : (P : K → Type 0) (k : K) (l : List (K × V)) → AllByRecursion P (keys_of l)
        → AllByRecursion P (keys_of (remove_entry (is_at (R k)) l))
    all_removed P k [] all = all
    all_removed P k (q ∷ l) all = all_removed-by P k q l (is_eq (R k q.0)) refl all (all_removed P k l all.1)

    -- ---- the order

    pub sorted_after : (a m : List (K × V)) → IsStrictlySortedBy R (keys_of (a ++ m)) → IsStrictlySortedBy R (keys_of m)
    unfolding IsStrictlySortedBy
    sorted_after [] m sorted = sorted
    sorted_after (p ∷ a) m sorted = sorted_after a m sorted.1

    all_before : (P : K → Type 0) (m c : List (K × V)) → AllByRecursion P (keys_of (m ++ c)) → AllByRecursion P (keys_of m)
    all_before P [] c all = tt
    all_before P (p ∷ m) c all = (all.0, all_before P m c all.1)

    sorted_before : (m c : List (K × V)) → IsStrictlySortedBy R (keys_of (m ++ c)) → IsStrictlySortedBy R (keys_of m)
    unfolding IsStrictlySortedBy
    sorted_before [] c sorted = tt
    sorted_before (p ∷ m) c sorted = (all_before (λ k. R p.0 k ≡ Less) m c sorted.0, sorted_before m c sorted.1)

    -- pairs in the middle of pairs in order are in order
    pub sorted_within : (a m c : List (K × V)) → IsStrictlySortedBy R (keys_of (a ++ (m ++ c))) → IsStrictlySortedBy R (keys_of m)
    sorted_within a m c sorted = sorted_before m c (sorted_after a (m ++ c) sorted)

    first_in : (P : K → Type 0) (a : List (K × V)) (q : K × V) (c : List (K × V)) → AllByRecursion P (keys_of (a ++ q ∷ c)) → P q.0
    first_in P [] q c all = all.0
    first_in P (p ∷ a) q c all = first_in P a q c all.1

    -- what is before a pair is below each key that isn't below the pair's
    pub below_first : (a : List (K × V)) (q : K × V) (c : List (K × V)) (k : K) → IsStrictlySortedBy R (keys_of (a ++ q ∷ c))
        → (R k q.0 ≡ Less → ⊥) → Below k a
    unfolding IsStrictlySortedBy
    below_first [] q c k sorted up = tt
    below_first (p ∷ a) q c k sorted up =
        (by (R k q.0) refl (turned p.0 q.0 Less (first_in (λ key. R p.0 key ≡ Less) a q c sorted.0)), below_first a q c k sorted.1 up)
      where
        by : (r : Ordering) → R k q.0 ≡ r → R q.0 p.0 ≡ Greater → R k p.0 ≡ Greater
        by Less e high = absurd (up e)
        by Equal e high = o.congr k q.0 p.0 e ∙ high
        by Greater e high = above k q.0 p.0 e high

    -- a pair and what is after it are above each key that is below the pair's
    pub above_first : (q : K × V) (c : List (K × V)) (k : K) → IsStrictlySortedBy R (keys_of (q ∷ c)) → R k q.0 ≡ Less → Above k (q ∷ c)
    unfolding IsStrictlySortedBy
    above_first q c k sorted less = (less, all_past k q.0 (keys_of c) less sorted.0)

    pub above_same : (q : K × V) (c : List (K × V)) (k : K) → IsStrictlySortedBy R (keys_of (q ∷ c)) → R k q.0 ≡ Equal → Above k c
    unfolding IsStrictlySortedBy
    above_same q c k sorted same = all_same k q.0 (keys_of c) same sorted.0

    pub sorted_put : (l : List (K × V)) (k : K) (v : V) → IsStrictlySortedBy R (keys_of l) → IsStrictlySortedBy R (keys_of (insert_entry R l k v))
    unfolding IsStrictlySortedBy
    sorted_put [] k v sorted = (tt, tt)
    sorted_put (e ∷ l) k v sorted = by (R k e.0) refl (sorted_put l k v sorted.1)
      where
        by : (r : Ordering) → R k e.0 ≡ r → IsStrictlySortedBy R (keys_of (insert_entry R l k v))
            → IsStrictlySortedBy R (keys_of (match_ordering r ((k, v) ∷ e ∷ l) ((e.0, v) ∷ l) (e ∷ insert_entry R l k v)))
        by Less is more = ((is, all_past k e.0 (keys_of l) is sorted.0), sorted)
        by Equal is more = sorted
        by Greater is more = (all_inserted (λ key. R e.0 key ≡ Less) k v l (turned k e.0 Greater is) sorted.0, more)

    pub sorted_cut : (l : List (K × V)) (k : K) → IsStrictlySortedBy R (keys_of l) → IsStrictlySortedBy R (keys_of (remove_entry (is_at (R k)) l))
    unfolding IsStrictlySortedBy
    sorted_cut [] k sorted = sorted
    sorted_cut (e ∷ l) k sorted = by (is_eq (R k e.0)) (sorted_cut l k sorted.1)
      where
        by : (b : Bool) → IsStrictlySortedBy R (keys_of (remove_entry (is_at (R k)) l))
            → IsStrictlySortedBy R (keys_of (cond b l (e ∷ remove_entry (is_at (R k)) l)))
        by true more = sorted.1
        by false more = (all_removed (λ key. R e.0 key ≡ Less) k l sorted.0, more)
