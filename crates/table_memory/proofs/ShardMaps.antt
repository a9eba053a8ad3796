-- The versions of a shard make that part of the map that has the shard's keys.
use Rattle.std.proofs.Common.{◌≡◌, ℕ, Bool, true, false, ◌==◌, cond, List, [], ◌∷◌, map, filter, None, refl, sym, ap, ◌∙◌, subst, eq-eqb}
use Rattle.std.proofs.lemmas.Bool.{false≢true, eqb-true}
use Rattle.std.proofs.lemmas.Cmp.{tied_itself}
use Rattle.std.specs.Cmp.{nat_cmp_total}
use Rattle.std.proofs.lemmas.List.Kept.{IsStrictlySortedBy-filter}
use Rattle.std.proofs.lemmas.Map.Entries.{lookup-filter-keys}
use Rattle.table_rule.proofs.Keys.{equal_keys}
use Rattle.std.specs.BTreeMap.{is_at}
use Rattle.std.specs.List.{AllByRecursion}
use Rattle.std.specs.List.Sorted.{IsStrictlySortedBy}
use Rattle.std.specs.Map.{keys_of}
use Rattle.std.specs.Ordering.{is_eq, nat_cmp, ordering_then}
use Rattle.std.specs.declared.cmp.Ordering.{Ordering}
use Rattle.std.specs.declared.cmp.Ordering.TheVariants.{Less, Equal, Greater}
use Rattle.model_base.specs.declared.key.Key.{Key}
use Rattle.model_base.specs.Map.{Pairs, Rows, byte_order, key_order, is_between, rows_of, after_record, after_records, value_at, rows_within}
use Rattle.table_rule.specs.declared.content.Version.{Version}
use Rattle.table_rule.specs.Histories.{record_of, map_of, of_shard, shard_of, shard_of_key}
use Rattle.table_tree.specs.Rows.{at_key}
use Rattle.table_tree.proofs.Maps.{AreAscending, ascending_after, value_after, same_key, eq_from}
use Rattle.table_tree.proofs.Order.{all_mapped}
use Rattle.table_tree.proofs.SamePairs.{same_pairs}
use Rattle.table_memory.specs.Rows.{AreRising}

pub rising_after : (m : Pairs) (vs : List Version) → AreAscending m → AreAscending (after_records m (map record_of vs))
rising_after m [] s = s
rising_after m (v ∷ vs) s = rising_after (after_record m (record_of v)) vs (ascending_after m v s)

pub rising_map : (vs : List Version) → AreAscending (map_of vs)
unfolding IsStrictlySortedBy
rising_map vs = rising_after [] vs tt

-- The keys of a map that is filtered by its keys

keys_kept : (p : Key → Bool) (m : Pairs) → keys_of (filter (λ e. p e.0) m) ≡ filter p (keys_of m)
keys_kept p [] = refl
keys_kept p (e ∷ m) = elim (p e.0) as (λ b. keys_of (cond b (e ∷ filter (λ e. p e.0) m) (filter (λ e. p e.0) m)) ≡ cond b (e.0 ∷ filter p (keys_of m)) (filter p (keys_of m))) [
  | true ↦ ap (λ (ks : List Key). e.0 ∷ ks) (keys_kept p m)
  | false ↦ keys_kept p m
]

pub rising_kept : (p : Key → Bool) (m : Pairs) → AreAscending m → AreAscending (filter (λ e. p e.0) m)
rising_kept p m s = subst (IsStrictlySortedBy key_order) (sym (keys_kept p m)) (IsStrictlySortedBy-filter key_order p (keys_of m) s)

-- Versions of another key

other_key : (q key : Key) → (q ≡ key → ⊥) → same_key q key ≡ false
other_key q key apart = go (key_order q key) refl
  where
    go : (o : Ordering) → key_order q key ≡ o → is_eq o ≡ false
    go Less e = refl
    go Equal e = absurd (apart (equal_keys q key e))
    go Greater e = refl

module _ (k j : ℕ) where
  of_other_shard : (q : Key) (v : Version) (b c : Bool) → (shard_of_key k q == j) ≡ b → (shard_of k v == j) ≡ c → (b ≡ c → ⊥) → same_key q v.key ≡ false
  of_other_shard q v b c e f apart = other_key q v.key (λ same. apart (sym e ∙ ap (λ (key : Key). shard_of_key k key == j) same ∙ f))

  false_true : false ≡ true → ⊥
  false_true e = false≢true e

  true_false : true ≡ false → ⊥
  true_false e = false≢true (sym e)

  -- to a key of the shard they do what all versions do
  same_value : (q : Key) → (shard_of_key k q == j) ≡ true → (m n : Pairs) (vs : List Version) → AreAscending m → AreAscending n → value_at n q ≡ value_at m q
      → value_at (after_records n (map record_of (of_shard k j vs))) q ≡ value_at (after_records m (map record_of vs)) q
  same_value q of m n [] s t h = h
  same_value q of m n (v ∷ vs) s t h = go (shard_of k v == j) refl (λ l u. same_value q of (after_record m (record_of v)) l vs (ascending_after m v s) u)
    where
      go : (b : Bool) → (shard_of k v == j) ≡ b
          → ((l : Pairs) → AreAscending l → value_at l q ≡ value_at (after_record m (record_of v)) q
          → value_at (after_records l (map record_of (of_shard k j vs))) q ≡ value_at (after_records (after_record m (record_of v)) (map record_of vs)) q)
          → value_at (after_records n (map record_of (cond b (v ∷ of_shard k j vs) (of_shard k j vs)))) q ≡ value_at (after_records (after_record m (record_of v)) (map record_of vs)) q
      go true e others =
          others (after_record n (record_of v)) (ascending_after n v t)
          (value_after n v q t ∙ ap (λ o. cond (same_key q v.key) v.value o) h ∙ sym (value_after m v q s))
      go false e others =
          others n t
          (h ∙ sym (value_after m v q s ∙ ap (λ b. cond b v.value (value_at m q)) (of_other_shard q v true false of e true_false)))

  -- and nothing to another key
  no_value : (q : Key) → (shard_of_key k q == j) ≡ false → (n : Pairs) (vs : List Version) → AreAscending n → value_at (after_records n (map record_of (of_shard k j vs))) q ≡ value_at n q
  no_value q of n [] t = refl
  no_value q of n (v ∷ vs) t = go (shard_of k v == j) refl (λ l. no_value q of l vs)
    where
      go : (b : Bool) → (shard_of k v == j) ≡ b
          → ((l : Pairs) → AreAscending l → value_at (after_records l (map record_of (of_shard k j vs))) q ≡ value_at l q)
          → value_at (after_records n (map record_of (cond b (v ∷ of_shard k j vs) (of_shard k j vs)))) q ≡ value_at n q
      go true e others =
          others (after_record n (record_of v)) (ascending_after n v t)
          ∙ value_after n v q t ∙ ap (λ b. cond b v.value (value_at n q)) (of_other_shard q v false true of e false_true)
      go false e others = others n t

  -- the map of the shard's versions
  pub shard_map : (vs : List Version) → map_of (of_shard k j vs) ≡ filter (λ e. shard_of_key k e.0 == j) (map_of vs)
  unfolding IsStrictlySortedBy
  shard_map vs =
      same_pairs (map_of (of_shard k j vs)) (filter (λ e. shard_of_key k e.0 == j) (map_of vs)) (rising_map (of_shard k j vs)) (rising_kept (λ key. shard_of_key k key == j) (map_of vs) (rising_map vs))
      (λ q. go q (shard_of_key k q == j) refl ∙ sym (lookup-filter-keys (is_at (key_order q)) (λ key. shard_of_key k key == j) (shard_of_key k q == j) (λ key e. ap (λ (x : Key). shard_of_key k x == j) (sym (equal_keys q key (eq_from (key_order q key) e)))) (map_of vs)))
    where
      go : (q : Key) (b : Bool) → (shard_of_key k q == j) ≡ b → value_at (map_of (of_shard k j vs)) q ≡ cond b (value_at (map_of vs) q) None
      go q true of = same_value q of [] [] vs tt tt refl
      go q false of = no_value q of [] vs tt

-- in its own shard a key has the value that it has in the whole map
pub own_shard : (k : ℕ) (q : Key) (vs : List Version) → value_at (map_of (of_shard k (shard_of_key k q) vs)) q ≡ value_at (map_of vs) q
unfolding IsStrictlySortedBy
own_shard k q vs = same_value k (shard_of_key k q) q (eq-eqb (shard_of_key k q) (shard_of_key k q) refl) [] [] vs tt tt refl

-- Rows

filters_swapped : {A : Type 0} (p q : A → Bool) (xs : List A) → filter p (filter q xs) ≡ filter q (filter p xs)
filters_swapped p q [] = refl
filters_swapped {A = A} p q (x ∷ xs) = go (p x) (q x) refl refl (filters_swapped p q xs)
  where
    go : (b c : Bool) → p x ≡ b → q x ≡ c → filter p (filter q xs) ≡ filter q (filter p xs) → filter p (cond c (x ∷ filter q xs) (filter q xs)) ≡ filter q (cond b (x ∷ filter p xs) (filter p xs))
    go true true e f others = ap (λ t. cond t (x ∷ filter p (filter q xs)) (filter p (filter q xs))) e ∙ ap (λ (l : List A). x ∷ l) others ∙ sym (ap (λ t. cond t (x ∷ filter q (filter p xs)) (filter q (filter p xs))) f)
    go true false e f others = others ∙ sym (ap (λ t. cond t (x ∷ filter q (filter p xs)) (filter q (filter p xs))) f)
    go false true e f others = ap (λ t. cond t (x ∷ filter p (filter q xs)) (filter p (filter q xs))) e ∙ others
    go false false e f others = others

-- the rows of a family of a map that is filtered by its keys
rows_kept : (family : ℕ) (p : Key → Bool) (m : Pairs) → rows_of family (filter (λ e. p e.0) m) ≡ filter (λ r. p (at_key family r.0)) (rows_of family m)
rows_kept family p [] = refl
rows_kept family p (e ∷ m) = go (p e.0) (e.0.family == family) refl refl (rows_kept family p m)
  where
    -- a key of the family is the family's key with its bytes
    own_key : (e.0.family == family) ≡ true → e.0 ≡ at_key family e.0.bytes
    own_key own = let same : e.0.family ≡ family = eqb-true e.0.family family own in λ i. record { family = same i; bytes = e.0.bytes }

    go : (b own : Bool) → p e.0 ≡ b → (e.0.family == family) ≡ own → rows_of family (filter (λ e. p e.0) m) ≡ filter (λ r. p (at_key family r.0)) (rows_of family m)
        → rows_of family (cond b (e ∷ filter (λ e. p e.0) m) (filter (λ e. p e.0) m)) ≡ filter (λ r. p (at_key family r.0)) (map (λ q. (q.0.bytes, q.1)) (cond own (e ∷ filter (λ q. q.0.family == family) m) (filter (λ q. q.0.family == family) m)))
    go true true kept own rest =
        let there : p (at_key family e.0.bytes) ≡ true = ap p (sym (own_key own)) ∙ kept in
        ap (λ t. map (λ q. (q.0.bytes, q.1)) (cond t (e ∷ filter (λ q. q.0.family == family) (filter (λ e. p e.0) m)) (filter (λ q. q.0.family == family) (filter (λ e. p e.0) m)))) own
        ∙ ap (λ (l : Rows). (e.0.bytes, e.1) ∷ l) rest
        ∙ sym (ap (λ t. cond t ((e.0.bytes, e.1) ∷ filter (λ r. p (at_key family r.0)) (rows_of family m)) (filter (λ r. p (at_key family r.0)) (rows_of family m))) there)
    go true false kept other rest =
        ap (λ t. map (λ q. (q.0.bytes, q.1)) (cond t (e ∷ filter (λ q. q.0.family == family) (filter (λ e. p e.0) m)) (filter (λ q. q.0.family == family) (filter (λ e. p e.0) m)))) other ∙ rest
    go false true kept own rest =
        let there : p (at_key family e.0.bytes) ≡ false = ap p (sym (own_key own)) ∙ kept in
        rest ∙ sym (ap (λ t. cond t ((e.0.bytes, e.1) ∷ filter (λ r. p (at_key family r.0)) (rows_of family m)) (filter (λ r. p (at_key family r.0)) (rows_of family m))) there)
    go false false kept other rest = rest

-- the rows of a shard are those of the map that are of the shard's keys
pub shard_rows : (k j family : ℕ) (lo hi : List ℕ) (vs : List Version) → rows_within family lo hi (map_of (of_shard k j vs)) ≡ filter (λ e. shard_of_key k (at_key family e.0) == j) (rows_within family lo hi (map_of vs))
shard_rows k j family lo hi vs =
    ap (rows_within family lo hi) (shard_map k j vs)
    ∙ ap (filter (λ r. is_between lo hi r.0)) (rows_kept family (λ key. shard_of_key k key == j) (map_of vs))
    ∙ filters_swapped (λ r. is_between lo hi r.0) (λ r. shard_of_key k (at_key family r.0) == j) (rows_of family (map_of vs))

-- the rows of a family are in byte order

-- what holds of all keys of a map holds of those of a family
all_of_family : (family : ℕ) (P : List ℕ → Type 0) (m : Pairs) → AllByRecursion (λ k. k.family ≡ family → P k.bytes) (keys_of m) → AllByRecursion P (keys_of (rows_of family m))
all_of_family family P [] a = tt
all_of_family family P (e ∷ m) a = go (e.0.family == family) refl (all_of_family family P m a.1)
  where
    go : (own : Bool) → (e.0.family == family) ≡ own → AllByRecursion P (keys_of (rows_of family m)) → AllByRecursion P (keys_of (map (λ q. (q.0.bytes, q.1)) (cond own (e ∷ filter (λ q. q.0.family == family) m) (filter (λ q. q.0.family == family) m))))
    go true own rest = (a.0 (eqb-true e.0.family family own), rest)
    go false other rest = rest

-- of two keys of one family the lower one is so by its bytes
lower_bytes : (family : ℕ) (k l : Key) → k.family ≡ family → l.family ≡ family → key_order k l ≡ Less → byte_order k.bytes l.bytes ≡ Less
lower_bytes family k l own other less =
    let same : nat_cmp k.family l.family ≡ Equal = (λ i. nat_cmp (own i) (other i)) ∙ tied_itself nat_cmp_total family in
    sym (ap (λ o. ordering_then o (byte_order k.bytes l.bytes)) same) ∙ less

rising_family : (family : ℕ) (m : Pairs) → AreAscending m → AreRising (rows_of family m)
unfolding IsStrictlySortedBy
rising_family family [] s = tt
rising_family family (e ∷ m) s = go (e.0.family == family) refl (rising_family family m s.1)
  where
    go : (own : Bool) → (e.0.family == family) ≡ own → AreRising (rows_of family m) → AreRising (map (λ q. (q.0.bytes, q.1)) (cond own (e ∷ filter (λ q. q.0.family == family) m) (filter (λ q. q.0.family == family) m)))
    go true own rest = (
      all_of_family family (λ k. byte_order e.0.bytes k ≡ Less) m
          (all_mapped (λ l. key_order e.0 l ≡ Less) (λ l. l.family ≡ family → byte_order e.0.bytes l.bytes ≡ Less) (λ l less other. lower_bytes family e.0 l (eqb-true e.0.family family own) other less) (keys_of m) s.0),
      rest,
    )
    go false other rest = rest

row_keys_kept : (p : List ℕ → Bool) (rows : Rows) → keys_of (filter (λ r. p r.0) rows) ≡ filter p (keys_of rows)
row_keys_kept p [] = refl
row_keys_kept p (r ∷ rows) = elim (p r.0) as (λ b. keys_of (cond b (r ∷ filter (λ r. p r.0) rows) (filter (λ r. p r.0) rows)) ≡ cond b (r.0 ∷ filter p (keys_of rows)) (filter p (keys_of rows))) [
  | true ↦ ap (λ (ks : List (List ℕ)). r.0 ∷ ks) (row_keys_kept p rows)
  | false ↦ row_keys_kept p rows
]

pub rising_rows : (family : ℕ) (lo hi : List ℕ) (vs : List Version) → AreRising (rows_within family lo hi (map_of vs))
rising_rows family lo hi vs =
    let rows : Rows = rows_of family (map_of vs) in
    subst (IsStrictlySortedBy byte_order) (sym (row_keys_kept (is_between lo hi) rows))
    (IsStrictlySortedBy-filter byte_order (is_between lo hi) (keys_of rows) (rising_family family (map_of vs) (rising_map vs)))
