-- The versions of a map's pairs.
use Rattle.std.proofs.Common.{◌≡◌, ℕ, ◌≤◌, List, [], ◌∷◌, ◌++◌, map, fold, Some, refl, sym, ap, ◌∙◌, subst, inl, inr, ⊎_elim, arith, append_assoc, append-nil}
use Rattle.std.specs.List.{AllByRecursion}
use Rattle.std.specs.List.Sorted.{IsStrictlySortedBy}
use Rattle.std.specs.Map.{keys_of}
use Rattle.std.specs.BTreeMap.{insert_entry}
use Rattle.std.specs.Ordering.{match_ordering, ordering_reverse}
use Rattle.std.specs.declared.cmp.Ordering.TheVariants.{Less, Greater}
use Rattle.model_base.specs.declared.key.Key.{Key}
use Rattle.model_base.specs.Map.{Pairs, key_order, after_record}
use Rattle.table_rule.specs.declared.content.Version.{Version}
use Rattle.table_rule.proofs.Keys.{key_total}
use Rattle.table_rule.specs.Histories.{In, AreRising, IsBase, versions_at, record_of, map_of, map_after}

abbrev pub version_at : ℕ → Key × List ℕ → Version
version_at n p = record { key = p.0; value = Some p.1; sequence = n }

-- each version is that of a pair
pub pair_of : (n : ℕ) (pairs : Pairs) (v : Version) → In v (versions_at n pairs) → (p : Key × List ℕ) × In p pairs × (v ≡ version_at n p)
pair_of n [] v h = absurd h
pair_of n (p ∷ pairs) v h = ⊎_elim
    (λ (e : version_at n p ≡ v). (p, inl refl, sym e))
    (λ (t : In v (versions_at n pairs)). let q = pair_of n pairs v t in (q.0, inr q.1, q.2))
    h

pub all_at : (n : ℕ) (pairs : Pairs) (v : Version) → In v (versions_at n pairs) → v.sequence ≡ n
all_at n pairs v h = ap (λ (w : Version). w.sequence) (pair_of n pairs v h).2

rising_at : (n : ℕ) (pairs : Pairs) → AreRising (versions_at n pairs)
rising_at n [] = tt
rising_at n (p ∷ pairs) = ((λ w h. let e = all_at n pairs w h in omega arith), rising_at n pairs)

pub base_at : (start n : ℕ) (pairs : Pairs) → n ≤ start → IsBase start (versions_at n pairs)
base_at start n pairs low = record {
  rising = rising_at n pairs;
  below = λ v h. let e = all_at n pairs v h in omega arith;
}

-- a key above all others comes last
insert_last : (m : Pairs) (k : Key) (v : List ℕ) → AllByRecursion (λ y. key_order k y ≡ Greater) (keys_of m) → insert_entry key_order m k v ≡ m ++ (k, v) ∷ []
insert_last [] k v a = refl
insert_last (e ∷ m) k v a =
    ap (λ o. match_ordering o ((k, v) ∷ e ∷ m) ((e.0, v) ∷ m) (e ∷ insert_entry key_order m k v)) a.0
    ∙ ap (λ (l : Pairs). e ∷ l) (insert_last m k v a.1)

at_middle : (P : Key → Type 0) (front : Pairs) (p : Key × List ℕ) (rest : Pairs) → AllByRecursion P (keys_of (front ++ p ∷ rest)) → P p.0
at_middle P [] p rest a = a.0
at_middle P (q ∷ front) p rest a = at_middle P front p rest a.1

above_front : (front : Pairs) (p : Key × List ℕ) (rest : Pairs) → IsStrictlySortedBy key_order (keys_of (front ++ p ∷ rest)) → AllByRecursion (λ y. key_order p.0 y ≡ Greater) (keys_of front)
unfolding IsStrictlySortedBy
above_front [] p rest s = tt
above_front (q ∷ front) p rest s =
    (key_total.antisymm p.0 q.0 ∙ ap ordering_reverse (at_middle (λ y. key_order q.0 y ≡ Less) front p rest s.0), above_front front p rest s.1)

map_behind : (n : ℕ) (front rest : Pairs) → IsStrictlySortedBy key_order (keys_of (front ++ rest)) → fold after_record front (map record_of (versions_at n rest)) ≡ front ++ rest
map_behind n front [] s = sym (append-nil front)
map_behind n front (p ∷ rest) s =
    let same : (front ++ p ∷ []) ++ rest ≡ front ++ p ∷ rest = append_assoc front (p ∷ []) rest in
    ap (λ m. fold after_record m (map record_of (versions_at n rest))) (insert_last front p.0 p.1 (above_front front p rest s))
    ∙ map_behind n (front ++ p ∷ []) rest (subst (λ (m : Pairs). IsStrictlySortedBy key_order (keys_of m)) (sym same) s)
    ∙ same

pub map_at : (n : ℕ) (pairs : Pairs) → IsStrictlySortedBy key_order (keys_of pairs) → map_after (versions_at n pairs) [] ≡ pairs
map_at n pairs s = ap map_of (append-nil (versions_at n pairs)) ∙ map_behind n [] pairs s
