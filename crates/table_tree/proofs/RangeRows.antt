-- The rows that a range gathers are those of the map.
use Rattle.std.proofs.Common.{◌≡◌, ℕ, Bool, true, false, cond, ◌&&◌, ◌==◌, List, [], ◌∷◌, ◌++◌, map, filter, Option, Some, None, refl, sym, ap, ◌∙◌}
use Rattle.std.proofs.lemmas.Bool.{eqb-true, eq-eqb}
use Rattle.std.proofs.lemmas.Cmp.{ranked}
use Rattle.std.specs.Cmp.{nat_cmp_total, tied_itself}
use Rattle.std.specs.Ordering.{nat_cmp}
use Rattle.std.specs.declared.cmp.Ordering.{Ordering}
use Rattle.std.specs.List.{AllByRecursion}
use Rattle.std.specs.List.Sorted.{IsStrictlySortedBy}
use Rattle.std.specs.Map.{keys_of}
use Rattle.std.specs.declared.cmp.Ordering.TheVariants.{Less, Equal, Greater}
use Rattle.model_base.specs.declared.key.Key.{Key}
use Rattle.model_base.specs.Map.{Pairs, Rows, key_order, after_record, after_records, value_at, rows_within}
use Rattle.model_base.specs.Map.{is_between as is_between_bytes}
use Rattle.table_rule.specs.declared.content.Version.{Version}
use Rattle.table_rule.specs.Histories.{IsOrderUpTo, record_of, map_of}
use Rattle.table_tree.specs.Versions.{AreOrdered}
use Rattle.table_nodes.specs.Chains.{Chain, key_of, chain_versions, versions_of, chain_order, AreSorted, AreKeyed}
use Rattle.table_nodes.specs.Newest.{first_up_to, said}
use Rattle.table_tree.specs.Newest.{chain_at, newest_in}
use Rattle.table_nodes.specs.Nodes.{at_key}
use Rattle.table_tree.specs.Rows.{is_between, between, pair_of, pairs_at, rows_in}
use Rattle.table_tree.proofs.Order.{all_mapped}
use Rattle.table_rule.proofs.Keys.{key_total}
use Rattle.table_tree.proofs.Keyed.{first_sorted}
use Rattle.table_tree.proofs.Finding.{newest_chain}
use Rattle.table_tree.proofs.Maps.{AreAscending, ascending_after, same_key, eq_from}
use Rattle.table_tree.proofs.Folding.{value_is_newest}
use Rattle.table_tree.proofs.SamePairs.{none_above, same_pairs}

-- what holds of a row's key, and of the keys of the rows after it, holds of all
all_pair : (P : Key → Type 0) (k : Key) (o : Option (List ℕ)) (rest : Pairs) → P k → AllByRecursion P (keys_of rest) → AllByRecursion P (keys_of (pair_of k o ++ rest))
all_pair P k None rest p a = a
all_pair P k (Some x) rest p a = (p, a)

ascending_pair : (k : Key) (o : Option (List ℕ)) (rest : Pairs) → AllByRecursion (λ y. key_order k y ≡ Less) (keys_of rest) → AreAscending rest → AreAscending (pair_of k o ++ rest)
unfolding IsStrictlySortedBy
ascending_pair k None rest a s = s
ascending_pair k (Some x) rest a s = (a, s)

module _ (at : ℕ) where
  all_pairs : (P : Key → Type 0) (cs : List Chain) → AllByRecursion (λ c. P (key_of c)) cs → AllByRecursion P (keys_of (pairs_at at cs))
  all_pairs P [] a = tt
  all_pairs P (c ∷ cs) a = all_pair P (key_of c) (said (first_up_to at (chain_versions c))) (pairs_at at cs) a.0 (all_pairs P cs a.1)

  pairs_ascending : (cs : List Chain) → AreSorted cs → AreAscending (pairs_at at cs)
  unfolding IsStrictlySortedBy
  pairs_ascending [] s = tt
  pairs_ascending (c ∷ cs) s =
      ascending_pair (key_of c) (said (first_up_to at (chain_versions c))) (pairs_at at cs) (all_pairs (λ y. key_order (key_of c) y ≡ Less) cs s.0) (pairs_ascending cs s.1)

  module _ (q : Key) where
    pair_other : (k : Key) (o : Option (List ℕ)) (rest : Pairs) → same_key q k ≡ false → value_at (pair_of k o ++ rest) q ≡ value_at rest q
    pair_other k None rest e = refl
    pair_other k (Some x) rest e = ap (λ b. cond b (Some x) (value_at rest q)) e

    pair_same : (k : Key) (o : Option (List ℕ)) (rest : Pairs) → same_key q k ≡ true → value_at rest q ≡ None → value_at (pair_of k o ++ rest) q ≡ o
    pair_same k None rest e n = n
    pair_same k (Some x) rest e n = ap (λ b. cond b (Some x) (value_at rest q)) e

    -- at a key the rows have what its chain says
    pairs_value : (cs : List Chain) → AreSorted cs → value_at (pairs_at at cs) q ≡ said (newest_in at (chain_at q cs))
    pairs_value [] s = refl
    pairs_value (c ∷ cs) s = go (same_key q (key_of c)) refl (pairs_value cs (first_sorted c cs s).1)
      where
        go : (b : Bool) → same_key q (key_of c) ≡ b → value_at (pairs_at at cs) q ≡ said (newest_in at (chain_at q cs))
            → value_at (pair_of (key_of c) (said (first_up_to at (chain_versions c))) ++ pairs_at at cs) q ≡ said (newest_in at (cond b (Some c) (chain_at q cs)))
        go true e rest =
            let past = all_mapped (λ d. chain_order c d ≡ Less) (λ d. key_order q (key_of d) ≡ Less)
            (λ d p. key_total.congr q (key_of c) (key_of d) (eq_from (key_order q (key_of c)) e) ∙ p) cs (first_sorted c cs s).0 in
            pair_same (key_of c) (said (first_up_to at (chain_versions c))) (pairs_at at cs) e (none_above q (pairs_at at cs) (all_pairs (λ y. key_order q y ≡ Less) cs past))
        go false e rest = pair_other (key_of c) (said (first_up_to at (chain_versions c))) (pairs_at at cs) e ∙ rest

  module _ (lo hi : Key) where
    abbrev within : Pairs → Pairs
    within m = filter (λ p. is_between lo hi p.0) m

    pair_within : (k : Key) (o : Option (List ℕ)) (rest : Pairs) → within (pair_of k o ++ rest) ≡ cond (is_between lo hi k) (pair_of k o ++ within rest) (within rest)
    pair_within k None rest = elim (is_between lo hi k) as (λ b. within rest ≡ cond b (within rest) (within rest)) [ true ↦ refl | false ↦ refl ]
    pair_within k (Some x) rest = refl

    -- the pairs of the chains in a range are the pairs in the range
    pairs_between : (cs : List Chain) → pairs_at at (between lo hi cs) ≡ within (pairs_at at cs)
    pairs_between [] = refl
    pairs_between (c ∷ cs) = pushed (is_between lo hi (key_of c)) (pairs_between cs) ∙ sym (pair_within (key_of c) (said (first_up_to at (chain_versions c))) (pairs_at at cs))
      where
        pushed : (b : Bool) → pairs_at at (between lo hi cs) ≡ within (pairs_at at cs) → pairs_at at (cond b (c ∷ between lo hi cs) (between lo hi cs))
            ≡ cond b (pair_of (key_of c) (said (first_up_to at (chain_versions c))) ++ within (pairs_at at cs)) (within (pairs_at at cs))
        pushed true rest = ap (λ (t : Pairs). pair_of (key_of c) (said (first_up_to at (chain_versions c))) ++ t) rest
        pushed false rest = rest

-- a key between two keys of one family is of this family, and between them in byte order
between_one : (family : ℕ) (lo hi : List ℕ) (k : Key) → is_between (at_key family lo) (at_key family hi) k ≡ ((k.family == family) && is_between_bytes lo hi k.bytes)
between_one family lo hi k = go (nat_cmp k.family family) refl (k.family == family) refl
  where
    go : (o : Ordering) → nat_cmp k.family family ≡ o → (b : Bool) → (k.family == family) ≡ b → is_between (at_key family lo) (at_key family hi) k ≡ ((k.family == family) && is_between_bytes lo hi k.bytes)
    go Less e true is = let same = eqb-true k.family family is in let equal = ap (λ n. nat_cmp n family) same ∙ tied_itself nat_cmp_total family in absurd (cc (e, equal))
    go Less e false is = rw (e, is) refl
    go Equal e true is = rw (e, is) refl
    go Equal e false is = let yes = eq-eqb k.family family (ranked k.family family Equal (sym e)) in absurd (cc (yes, is))
    go Greater e true is = let same = eqb-true k.family family is in let equal = ap (λ n. nat_cmp n family) same ∙ tied_itself nat_cmp_total family in absurd (cc (e, equal))
    go Greater e false is = rw (e, is) refl

module _ (family : ℕ) (lo hi : List ℕ) where
  abbrev is_asked : Key × List ℕ → Bool
  is_asked q = is_between (at_key family lo) (at_key family hi) q.0

  abbrev is_own : Key × List ℕ → Bool
  is_own q = q.0.family == family

  abbrev is_asked_row : List ℕ × List ℕ → Bool
  is_asked_row r = is_between_bytes lo hi r.0

  -- the pairs between two keys of one family are this family's rows between them
  rows_of_within : (m : Pairs) → rows_in (filter is_asked m) ≡ filter is_asked_row (rows_in (filter is_own m))
  rows_of_within [] = refl
  rows_of_within (p ∷ m) =
      ap (λ b. rows_in (cond b (p ∷ filter is_asked m) (filter is_asked m))) (between_one family lo hi p.0)
      ∙ by (p.0.family == family) (is_between_bytes lo hi p.0.bytes) refl (rows_of_within m)
    where
      by : (own between : Bool) → is_between_bytes lo hi p.0.bytes ≡ between → rows_in (filter is_asked m) ≡ filter is_asked_row (rows_in (filter is_own m))
          → rows_in (cond (own && between) (p ∷ filter is_asked m) (filter is_asked m)) ≡ filter is_asked_row (rows_in (cond own (p ∷ filter is_own m) (filter is_own m)))
      by true true e rest = rw e (ap (λ (l : Rows). (p.0.bytes, p.1) ∷ l) rest)
      by true false e rest = rw e rest
      by false between e rest = rest

map_ascending : (m : Pairs) (l : List Version) → AreAscending m → AreAscending (after_records m (map record_of l))
map_ascending m [] s = s
map_ascending m (v ∷ l) s = map_ascending (after_record m (record_of v)) l (ascending_after m v s)

pub range_rows : (family : ℕ) (lo hi : List ℕ) (at : ℕ) (cs : List Chain) (history : List Version) → AreOrdered (versions_of cs) → AreKeyed cs → IsOrderUpTo at (versions_of cs) history
    → rows_in (pairs_at at (between (at_key family lo) (at_key family hi) cs)) ≡ rows_within family lo hi (map_of history)
unfolding IsStrictlySortedBy
range_rows family lo hi at cs history s k h =
    let same : pairs_at at cs ≡ map_of history = same_pairs (pairs_at at cs) (map_of history) (pairs_ascending at cs k.sorted) (map_ascending [] history tt)
    (λ q. pairs_value at q cs k.sorted ∙ ap said (sym (newest_chain q at cs k)) ∙ sym (value_is_newest q at (versions_of cs) history s h)) in
    ap rows_in (pairs_between at (at_key family lo) (at_key family hi) cs)
    ∙ rows_of_within family lo hi (pairs_at at cs)
    ∙ ap (rows_within family lo hi) same
