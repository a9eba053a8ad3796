-- What a record does to the value of a key, and that the keys of a map stay in order.
use Rattle.std.proofs.Common.{◌≡◌, Bool, true, false, cond, List, ℕ, [], ◌∷◌, Option, Some, None, refl, sym, ap, ◌∙◌, subst}
use Rattle.std.proofs.lemmas.Cmp.{alike_right, eq_by_cmp_equiv}
use Rattle.std.proofs.lemmas.Map.{lookup-remove_entry}
use Rattle.std.proofs.lemmas.Map.Keys.{IsDistinct-from_sorted}
use Rattle.std.specs.List.{AllByRecursion}
use Rattle.std.specs.List.Sorted.{IsStrictlySortedBy}
use Rattle.std.specs.Map.{keys_of, remove_entry}
use Rattle.std.specs.BTreeMap.{insert_entry, is_at}
use Rattle.std.specs.BTreeSet.{insert_key}
use Rattle.std.specs.Ordering.{match_ordering, is_eq}
use Rattle.std.specs.declared.cmp.Ordering.{Ordering}
use Rattle.std.specs.declared.cmp.Ordering.TheVariants.{Less, Equal, Greater}
use Rattle.model_base.specs.declared.key.Key.{Key}
use Rattle.model_base.specs.Map.{Pairs, key_order, after_record, value_at}
use Rattle.table_rule.specs.declared.content.Version.{Version}
use Rattle.table_rule.specs.Histories.{record_of, record_writing}
use Rattle.table_tree.proofs.Order.{sorted_inserted, flip_greater}
use Rattle.table_rule.proofs.Keys.{key_total}

-- the keys of a map are in order
abbrev pub AreAscending : Pairs → Type 0
AreAscending m = IsStrictlySortedBy key_order (keys_of m)

keys-insert_entry : (m : Pairs) (k : Key) (v : List ℕ) → keys_of (insert_entry key_order m k v) ≡ insert_key key_order (keys_of m) k
keys-insert_entry [] k v = refl
keys-insert_entry (e ∷ m) k v =
    elim (key_order k e.0) as (λ o. keys_of (match_ordering o ((k, v) ∷ e ∷ m) ((e.0, v) ∷ m) (e ∷ insert_entry key_order m k v))
    ≡ match_ordering o (k ∷ e.0 ∷ keys_of m) (e.0 ∷ keys_of m) (e.0 ∷ insert_key key_order (keys_of m) k)) [
      | Less ↦ refl
      | Equal ↦ refl
      | Greater ↦ ap (λ (l : List Key). e.0 ∷ l) (keys-insert_entry m k v)
    ]

all_left : (P : Key → Type 0) (test : Key → Bool) (m : Pairs) → AllByRecursion P (keys_of m) → AllByRecursion P (keys_of (remove_entry test m))
all_left P test [] a = tt
all_left P test (e ∷ m) a = elim (test e.0) as (λ b. AllByRecursion P (keys_of (cond b m (e ∷ remove_entry test m)))) [ true ↦ a.1 | false ↦ (a.0, all_left P test m a.1) ]

ascending_left : (test : Key → Bool) (m : Pairs) → AreAscending m → AreAscending (remove_entry test m)
unfolding IsStrictlySortedBy
ascending_left test [] s = tt
ascending_left test (e ∷ m) s =
    elim (test e.0) as (λ b. AreAscending (cond b m (e ∷ remove_entry test m))) [
      | true ↦ s.1
      | false ↦ (all_left (λ y. key_order e.0 y ≡ Less) test m s.0, ascending_left test m s.1)
    ]

pub ascending_after : (m : Pairs) (v : Version) → AreAscending m → AreAscending (after_record m (record_of v))
ascending_after m v s = go v.value
  where
    go : (o : Option (List ℕ)) → AreAscending (after_record m (record_writing v.key o))
    go None = ascending_left (is_at (key_order v.key)) m s
    go (Some x) = subst (IsStrictlySortedBy key_order) (sym (keys-insert_entry m v.key x)) (sorted_inserted key_order key_total v.key (keys_of m) s)

abbrev pub same_key : Key → Key → Bool
same_key q k = is_eq (key_order q k)

twice : (b : Bool) (x y : Option (List ℕ)) (z : Option (List ℕ)) → cond b x z ≡ cond b x (cond b y z)
twice true x y z = refl
twice false x y z = refl

swapped : (a b : Bool) (x y z : Option (List ℕ)) → (a ≡ true → b ≡ false) → cond a x (cond b y z) ≡ cond b y (cond a x z)
swapped true b x y z f = rw (f refl)
swapped false b x y z f = refl

pub eq_from : (o : Ordering) → is_eq o ≡ true → o ≡ Equal
eq_from Less e = absurd (cc)
eq_from Equal e = refl
eq_from Greater e = absurd (cc)

-- an inserted entry is found by its key, and the others as before
inserted_at : (e : Key × List ℕ) (m : Pairs) (k : Key) (v : List ℕ) (q : Key) (o : Ordering) → key_order k e.0 ≡ o
    → value_at (insert_entry key_order m k v) q ≡ cond (same_key q k) (Some v) (value_at m q)
    → value_at (match_ordering o ((k, v) ∷ e ∷ m) ((e.0, v) ∷ m) (e ∷ insert_entry key_order m k v)) q ≡ cond (same_key q k) (Some v) (cond (same_key q e.0) (Some e.1) (value_at m q))
inserted_at e m k v q Less p rest = refl
inserted_at e m k v q Equal p rest =
    let same : same_key q k ≡ same_key q e.0 = ap is_eq (alike_right key_total k e.0 q p) in
    twice (same_key q e.0) (Some v) (Some e.1) (value_at m q) ∙ ap (λ b. cond b (Some v) (cond (same_key q e.0) (Some e.1) (value_at m q))) (sym same)
inserted_at e m k v q Greater p rest =
    ap (cond (same_key q e.0) (Some e.1)) rest
    ∙ swapped (same_key q e.0) (same_key q k) (Some e.1) (Some v) (value_at m q) (λ y.
    let moved : key_order q k ≡ key_order e.0 k = key_total.congr q e.0 k (eq_from (key_order q e.0) y) in
    ap is_eq (moved ∙ flip_greater key_order key_total k e.0 p))

lookup_inserted : (m : Pairs) (k : Key) (v : List ℕ) (q : Key) → value_at (insert_entry key_order m k v) q ≡ cond (same_key q k) (Some v) (value_at m q)
lookup_inserted [] k v q = refl
lookup_inserted (e ∷ m) k v q = inserted_at e m k v q (key_order k e.0) refl (lookup_inserted m k v q)

-- a key that was taken out has no value, and the others have theirs
lookup_removed : (m : Pairs) (k q : Key) → AreAscending m → value_at (remove_entry (is_at (key_order k)) m) q ≡ cond (same_key q k) None (value_at m q)
lookup_removed m k q s =
    let laws = eq_by_cmp_equiv key_total in
    lookup-remove_entry laws (is_at (key_order k)) (λ x y t. laws.congr k x y t) q m (IsDistinct-from_sorted key_order (keys_of m) s)
    ∙ ap (λ b. cond b None (value_at m q)) (laws.symm k q)

pub value_after : (m : Pairs) (v : Version) (q : Key) → AreAscending m → value_at (after_record m (record_of v)) q ≡ cond (same_key q v.key) v.value (value_at m q)
value_after m v q s = go v.value
  where
    go : (o : Option (List ℕ)) → value_at (after_record m (record_writing v.key o)) q ≡ cond (same_key q v.key) o (value_at m q)
    go None = lookup_removed m v.key q s
    go (Some x) = lookup_inserted m v.key x q
