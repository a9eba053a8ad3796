-- The newest version of a key says what the key has in the map that the versions make in the order of their sequences.
use Rattle.std.proofs.Common.{◌≡◌, ◌⊎◌, ℕ, ◌<◌, ◌≤◌, Bool, true, false, cond, List, [], ◌∷◌, map, Option, Some, None, refl, sym, ap, ◌∙◌, subst, inl, inr, arith}
use Rattle.std.proofs.lemmas.Bool.{and_parts, and_from, le-leb, leb-true, false≢true}
use Rattle.std.specs.List.{AllByRecursion}
use Rattle.std.specs.List.Sorted.{IsStrictlySortedBy}
use Rattle.std.specs.Ordering.{is_eq}
use Rattle.std.specs.BTreeMap.{is_at}
use Rattle.std.specs.declared.cmp.Ordering.{Ordering}
use Rattle.std.specs.declared.cmp.Ordering.TheVariants.{Less, Equal, Greater}
use Rattle.model_base.specs.declared.key.Key.{Key}
use Rattle.model_base.specs.Map.{Pairs, key_order, after_record, after_records, value_at}
use Rattle.table_rule.specs.declared.content.Version.{Version}
use Rattle.table_rule.specs.Histories.{In, AreRising, IsOrderUpTo, record_of, map_of}
use Rattle.table_tree.specs.Versions.{version_order, AreOrdered}
use Rattle.table_nodes.specs.Newest.{is_seen, said}
use Rattle.table_tree.specs.Newest.{newest_version}
use Rattle.table_tree.proofs.Order.{sorted_past}
use Rattle.table_rule.proofs.Keys.{key_total}
use Rattle.table_tree.proofs.VersionOrder.{before_cases}
use Rattle.table_tree.proofs.Maps.{AreAscending, ascending_after, value_after}

pub all_at : (P : Version → Type 0) (l : List Version) (v : Version) → AllByRecursion P l → In v l → P v
all_at P [] v a i = absurd i
all_at P (w ∷ l) v a (inl e) = subst P e a.0
all_at P (w ∷ l) v a (inr i) = all_at P l v a.1 i

-- what the last version of a key says, or else d
abbrev latest : Key → Option (List ℕ) → List Version → Option (List ℕ)
latest key d [] = d
latest key d (v ∷ l) = latest key (cond (is_at (key_order key) v.key) v.value d) l

value_latest : (key : Key) (l : List Version) (m : Pairs) → AreAscending m → value_at (after_records m (map record_of l)) key ≡ latest key (value_at m key) l
value_latest key [] m s = refl
value_latest key (v ∷ l) m s =
    value_latest key l (after_record m (record_of v)) (ascending_after m v s) ∙ ap (λ d. latest key d l) (value_after m v key s)

-- whether a version is of the key
abbrev of_key : Key → Version → Bool
of_key key v = is_at (key_order key) v.key

module _ (key : Key) where
  latest_none : (l : List Version) (d : Option (List ℕ)) → ((u : Version) → In u l → of_key key u ≡ false) → latest key d l ≡ d
  latest_none [] d n = refl
  latest_none (v ∷ l) d n = ap (λ b. latest key (cond b v.value d) l) (n v (inl refl)) ∙ latest_none l d (λ u i. n u (inr i))

  latest_stays : (l : List Version) (x : Option (List ℕ)) → ((u : Version) → In u l → of_key key u ≡ true → u.value ≡ x) → latest key x l ≡ x
  latest_stays [] x same = refl
  latest_stays (v ∷ l) x same =
      ap (λ d. latest key d l) (go (of_key key v) refl) ∙ latest_stays l x (λ u i y. same u (inr i) y)
    where
      go : (b : Bool) → of_key key v ≡ b → cond b v.value x ≡ x
      go true y = same v (inl refl) y
      go false y = refl

  -- no version of the key in the list is above w, and one at its sequence says the same
  abbrev IsTop : Version → List Version → Type 0
  IsTop w l = (u : Version) → In u l → of_key key u ≡ true → (u.sequence ≤ w.sequence) × (u.sequence ≡ w.sequence → u.value ≡ w.value)

  latest_is : (w : Version) (l : List Version) (d : Option (List ℕ)) → of_key key w ≡ true → IsTop w l → AreRising l → In w l → latest key d l ≡ w.value
  latest_is w [] d y top rising i = absurd i
  latest_is w (v ∷ l) d y top rising (inl e) =
      let v_key : of_key key v ≡ true = subst (λ u. of_key key u ≡ true) (sym e) y in
      let same : v.value ≡ w.value = ap (λ (u : Version). u.value) e in
      ap (λ b. latest key (cond b v.value d) l) v_key ∙ ap (λ x. latest key x l) same
      ∙ latest_stays l w.value (λ u i at. let t = top u (inr i) at in let up = rising.0 u i in let s = ap (λ (x : Version). x.sequence) e in t.1 (omega arith))
  latest_is w (v ∷ l) d y top rising (inr i) = latest_is w l _ y (λ u j at. top u (inr j) at) rising.1 i

  module _ (at : ℕ) where
    -- w is the newest version of the key up to the sequence
    record IsNewestOf (l : List Version) (w : Version) : Type 0 where
      is_in : In w l
      seen : is_seen key at w ≡ true
      says : newest_version key at l ≡ Some w
      top : (u : Version) → In u l → is_seen key at u ≡ true → (u.sequence ≤ w.sequence) × (u.sequence ≡ w.sequence → u.value ≡ w.value)

    -- no version is of the key and up to the sequence
    record HasNone (l : List Version) : Type 0 where
      says : newest_version key at l ≡ None
      none : (u : Version) → In u l → is_seen key at u ≡ false

    eq_from : (o : Ordering) → is_eq o ≡ true → o ≡ Equal
    eq_from Less e = absurd (cc)
    eq_from Equal e = refl
    eq_from Greater e = absurd (cc)

    -- of two versions of the key, the one that comes first is newer
    pub newer : (v u : Version) → is_seen key at v ≡ true → is_seen key at u ≡ true → version_order v u ≡ Less → u.sequence < v.sequence
    newer v u sv su p =
        let kv = eq_from (key_order key v.key) (and_parts _ _ sv).0 in
        let ku = eq_from (key_order key u.key) (and_parts _ _ su).0 in
        let same : key_order v.key u.key ≡ Equal = sym (key_total.congr key v.key u.key kv) ∙ ku in
        elim (before_cases v u p) [ inl less ↦ absurd (cc) | inr later ↦ later.1 ]

    find : (l : List Version) → AreOrdered l → ((w : Version) × IsNewestOf l w) ⊎ HasNone l
    find [] s = inr (record { says = refl; none = λ u i. absurd i })
    find (v ∷ l) s = go (is_seen key at v) refl (find l (sorted_past version_order v l s).1)
      where
        go : (b : Bool) → is_seen key at v ≡ b → ((w : Version) × IsNewestOf l w) ⊎ HasNone l → ((w : Version) × IsNewestOf (v ∷ l) w) ⊎ HasNone (v ∷ l)
        go true y rest = inl (
          v,
          record {
            is_in = inl refl;
            seen = y;
            says = ap (λ b. cond b (Some v) (newest_version key at l)) y;
            top = λ u i su. elim i [
              | inl e ↦ (let s = ap (λ (x : Version). x.sequence) e in omega arith, λ _. sym (ap (λ (x : Version). x.value) e))
              | inr j ↦ let less = newer v u y su (all_at (λ x. version_order v x ≡ Less) l u (sorted_past version_order v l s).0 j) in (omega arith, λ same. absurd (omega arith))
            ];
          },
        )
        go false y (inl (w, found)) = inl (
          w,
          record {
            is_in = inr found.is_in;
            seen = found.seen;
            says = ap (λ b. cond b (Some v) (newest_version key at l)) y ∙ found.says;
            top = λ u i su. elim i [
              | inl e ↦ absurd (false≢true (sym y ∙ subst (λ x. is_seen key at x ≡ true) (sym e) su))
              | inr j ↦ found.top u j su
            ];
          },
        )
        go false y (inr none) = inr (record {
          says = ap (λ b. cond b (Some v) (newest_version key at l)) y ∙ none.says;
          none = λ u i. elim i [
            | inl e ↦ subst (λ x. is_seen key at x ≡ false) e y
            | inr j ↦ none.none u j
          ];
        })

pub value_is_newest : (key : Key) (at : ℕ) (versions history : List Version) → AreOrdered versions → IsOrderUpTo at versions history → value_at (map_of history) key ≡ said (newest_version key at versions)
unfolding IsStrictlySortedBy
value_is_newest key at versions history s h =
    value_latest key history [] tt ∙ elim (find key at versions s) [
      | inl (w, found) ↦
          let parts = and_parts _ _ found.seen in
          let le : w.sequence ≤ at = leb-true w.sequence at parts.1 in
          latest_is key w history None parts.0
          (λ u i y. let there = (h.same u).0 i in found.top u there.0 (and_from _ _ y (le-leb u.sequence at there.1)))
          h.rising ((h.same w).1 (found.is_in, le)) ∙ sym (ap said found.says)
      | inr none ↦
          latest_none key history None (λ u i. let there = (h.same u).0 i in unseen u (none.none u there.0) there.1) ∙ sym (ap said none.says)
    ]
  where
    unseen : (u : Version) → is_seen key at u ≡ false → u.sequence ≤ at → of_key key u ≡ false
    unseen u n le = go (of_key key u) refl
      where
        go : (b : Bool) → of_key key u ≡ b → b ≡ false
        go true y = absurd (false≢true (sym n ∙ and_from _ _ y (le-leb u.sequence at le)))
        go false y = refl
