-- The map that records make, by what each of them does to the value of a key.
use Rattle.std.proofs.Common.{◌≡◌, ℕ, Bool, true, false, cond, not, ◌&&◌, T, List, [], ◌∷◌, Option, Some, None, fold, refl, sym, ap, ◌∙◌, subst}
use Rattle.std.specs.declared.cmp.Ordering.{Ordering}
use Rattle.std.specs.declared.cmp.Ordering.TheVariants.{Less, Equal, Greater}
use Rattle.std.specs.Ordering.{is_eq, is_lt, match_ordering, eq_by_cmp}
use Rattle.std.specs.Map.{remove_entry}
use Rattle.std.specs.BTreeMap.{insert_entry, is_at}
use Rattle.std.specs.FinMap.Entries.{by_order, put, find, where_key, below_all, is_sorted, is_sorted-put, is_sorted-where_key, find-put, find-where_key, same_entries}
use Rattle.std.proofs.lemmas.Cmp.{eq_by_cmp_equiv}
use Rattle.model_base.specs.Batch.{Record, value, deletion, single_deletion, log_data}
use Rattle.model_base.specs.declared.key.Key.{Key}
use Rattle.model_base.specs.Map.{Pairs, key_order, key_in, after_record, after_records}
use Rattle.table_rule.proofs.Keys.{key_total, equal_keys}

-- the keys of a map rise
abbrev pub Rises : Pairs → Type 0
Rises m = T (is_sorted key_order m)

abbrev pub is_key : Key → Key → Bool
is_key q key = eq_by_cmp key_order q key

-- Insertion and removal, as they are defined for maps in the order of their keys

as_put : (m : Pairs) (key : Key) (v : List ℕ) → insert_entry key_order m key v ≡ put key_order key v m
as_put [] key v = refl
as_put (e ∷ m) key v =
    elim (key_order key e.0) as (λ o. match_ordering o ((key, v) ∷ e ∷ m) ((e.0, v) ∷ m) (e ∷ insert_entry key_order m key v) ≡ by_order o ((key, v) ∷ e ∷ m) ((e.0, v) ∷ m) (e ∷ put key_order key v m)) [
      | Less ↦ refl
      | Equal ↦ refl
      | Greater ↦ ap (λ (es : Pairs). e ∷ es) (as_put m key v)
    ]

-- all pairs but those of a key
abbrev others : Key → Pairs → Pairs
others key m = where_key key_order (λ k. not (is_key key k)) m

both_parts : (a b : Bool) → T (a && b) → T a × T b
both_parts true b h = (tt, h)
both_parts false b h = absurd h

less_is : (o : Ordering) → T (is_lt o) → o ≡ Less
less_is Less h = refl
less_is Equal h = absurd h
less_is Greater h = absurd h

others_above : (key : Key) (m : Pairs) → T (below_all key_order key m) → others key m ≡ m
others_above key [] below = refl
others_above key (e ∷ m) below =
    let parts = both_parts (is_lt (key_order key e.0)) (below_all key_order key m) below in
    ap (λ o. cond (not (is_eq o)) (e ∷ others key m) (others key m)) (less_is (key_order key e.0) parts.0) ∙ ap (λ (es : Pairs). e ∷ es) (others_above key m parts.1)

as_others : (m : Pairs) (key : Key) → Rises m → remove_entry (is_at (key_order key)) m ≡ others key m
as_others [] key s = refl
as_others (e ∷ m) key s =
    let parts = both_parts (below_all key_order e.0 m) (is_sorted key_order m) s in let rest = as_others m key parts.1 in
    elim (key_order key e.0) as (λ o. key_order key e.0 ≡ o → cond (is_eq o) m (e ∷ remove_entry (is_at (key_order key)) m) ≡ cond (not (is_eq o)) (e ∷ others key m) (others key m)) [
      | Less ↦ λ p. ap (λ (es : Pairs). e ∷ es) rest
      | Equal ↦ λ p. sym (others_above key m (subst (λ k. T (below_all key_order k m)) (sym (equal_keys key e.0 p)) parts.0))
      | Greater ↦ λ p. ap (λ (es : Pairs). e ∷ es) rest
    ] refl

-- The value of a key

abbrev pub value_of : Key → Pairs → Option (List ℕ)
value_of q m = find key_order q m

-- what a record does to the value of a key
abbrev pub changed : Key → Record → Option (List ℕ) → Option (List ℕ)
changed q (value family key v) old = cond (is_key q (key_in family key)) (Some v) old
changed q (deletion family key) old = cond (is_key q (key_in family key)) None old
changed q (single_deletion family key) old = cond (is_key q (key_in family key)) None old
changed q (log_data blob) old = old

abbrev pub changed_by : Key → List Record → Option (List ℕ) → Option (List ℕ)
changed_by q records old = fold (λ o r. changed q r o) old records

key_is : (q key : Key) → key_order q key ≡ Equal → is_key key q ≡ true
key_is q key p = (eq_by_cmp_equiv key_total).symm key q ∙ ap is_eq p

turned : (b : Bool) (o : Option (List ℕ)) → cond (not b) o None ≡ cond b None o
turned true o = refl
turned false o = refl

after_removal : (m : Pairs) (key q : Key) → Rises m → value_of q (remove_entry (is_at (key_order key)) m) ≡ cond (is_key q key) None (value_of q m)
after_removal m key q s =
    ap (value_of q) (as_others m key s)
    ∙ find-where_key key_order (λ k. not (is_key key k)) q (λ k p. ap (λ x. not (is_key key x)) (sym (equal_keys q k p))) m
    ∙ turned (is_key key q) (value_of q m) ∙ ap (λ b. cond b None (value_of q m)) ((eq_by_cmp_equiv key_total).symm key q)

after_one : (m : Pairs) (r : Record) (q : Key) → Rises m → value_of q (after_record m r) ≡ changed q r (value_of q m)
after_one m (value family key v) q s = ap (value_of q) (as_put m (key_in family key) v) ∙ find-put key_order key_total q (key_in family key) v m
after_one m (deletion family key) q s = after_removal m (key_in family key) q s
after_one m (single_deletion family key) q s = after_removal m (key_in family key) q s
after_one m (log_data blob) q s = refl

rises_without : (m : Pairs) (key : Key) → Rises m → Rises (remove_entry (is_at (key_order key)) m)
rises_without m key s = subst Rises (sym (as_others m key s)) (is_sorted-where_key key_order (λ k. not (is_key key k)) m s)

rises_one : (m : Pairs) (r : Record) → Rises m → Rises (after_record m r)
rises_one m (value family key v) s = subst Rises (sym (as_put m (key_in family key) v)) (is_sorted-put key_order key_total (key_in family key) v m s)
rises_one m (deletion family key) s = rises_without m (key_in family key) s
rises_one m (single_deletion family key) s = rises_without m (key_in family key) s
rises_one m (log_data blob) s = s

rises : (m : Pairs) (records : List Record) → Rises m → Rises (after_records m records)
rises m [] s = s
rises m (r ∷ records) s = rises (after_record m r) records (rises_one m r s)

after_all : (m : Pairs) (records : List Record) (q : Key) → Rises m → value_of q (after_records m records) ≡ changed_by q records (value_of q m)
after_all m [] q s = refl
after_all m (r ∷ records) q s = after_all (after_record m r) records q (rises_one m r s) ∙ ap (changed_by q records) (after_one m r q s)

-- records that do the same to the value of each key make the same map
pub same_map : (records others : List Record) → ((q : Key) → changed_by q records None ≡ changed_by q others None) → after_records [] records ≡ after_records [] others
same_map records others same =
    same_entries key_order key_total equal_keys (after_records [] records) (after_records [] others) (rises [] records tt) (rises [] others tt)
    (λ q. after_all [] records q tt ∙ same q ∙ sym (after_all [] others q tt))
