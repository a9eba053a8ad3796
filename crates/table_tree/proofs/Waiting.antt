-- Versions that wait beside the tree: with them all versions are in order, and the newest one of a key is the newest of
-- those in the tree and of those that wait.
use Rattle.std.proofs.Common.{◌≡◌, ℕ, Bool, true, false, cond, ltb, List, [], ◌∷◌, ◌++◌, Option, Some, refl, sym, ap, ◌∙◌, arith}
use Rattle.std.proofs.lemmas.Bool.Decides.{nat_tests}
use Rattle.std.proofs.lemmas.List.Sums.{fold-append}
use Rattle.std.specs.List.{AllByRecursion}
use Rattle.std.specs.Ordering.{match_ordering}
use Rattle.std.specs.declared.cmp.Ordering.{Ordering}
use Rattle.std.specs.declared.cmp.Ordering.TheVariants.{Less, Equal, Greater}
use Rattle.model_base.specs.declared.key.Key.{Key}
use Rattle.table_rule.specs.declared.content.Version.{Version}
use Rattle.table_nodes.specs.Newest.{is_seen, newer_of, newest_with}
use Rattle.table_tree.specs.Versions.{version_order, AreOrdered, IsNew, insert_version}
use Rattle.table_tree.specs.Shapes.{with_versions, AreNew}
use Rattle.table_tree.specs.Newest.{newest_version, newest_among}
use Rattle.table_tree.proofs.Order.{sorted_past, sorted_inserted, flip_greater, all_mapped}
use Rattle.table_tree.proofs.VersionOrder.{version_total}
use Rattle.table_tree.proofs.Folding.{newer}

-- all versions are in order
pub with_ordered : (versions late : List Version) → AreOrdered versions → AreOrdered (with_versions versions late)
with_ordered versions [] ordered = ordered
with_ordered versions (v ∷ late) ordered = with_ordered (insert_version versions v) late (sorted_inserted version_order version_total v versions ordered)

-- one more version waits after the others
pub one_more_waits : (versions late : List Version) (v : Version) → with_versions versions (late ++ v ∷ []) ≡ insert_version (with_versions versions late) v
one_more_waits versions late v = fold-append insert_version versions late (v ∷ [])

pub one_more_new : (versions late : List Version) (v : Version) → AreNew versions late → IsNew v (with_versions versions late) → AreNew versions (late ++ v ∷ [])
one_more_new versions [] v apart new = (new, tt)
one_more_new versions (w ∷ late) v apart new = (apart.0, one_more_new (insert_version versions w) late v apart.1 new)

module _ (key : Key) (at : ℕ) where
  -- what is found after a version that comes first is older
  older : (v : Version) (l : List Version) → is_seen key at v ≡ true → AllByRecursion (λ u. version_order v u ≡ Less) l → newer_of (newest_version key at l) v ≡ Some v
  older v [] seen a = refl
  older v (w ∷ l) seen a = go (is_seen key at w) refl (older v l seen a.1)
    where
      go : (b : Bool) → is_seen key at w ≡ b → newer_of (newest_version key at l) v ≡ Some v → newer_of (cond (is_seen key at w) (Some w) (newest_version key at l)) v ≡ Some v
      go true y rest =
          let less = newer key at v w seen y a.0 in
          let test : ltb w.sequence v.sequence ≡ true = grind (arith, nat_tests) in
          ap (λ b. newer_of (cond b (Some w) (newest_version key at l)) v) y ∙ ap (λ b. cond b (Some v) (Some w)) test
      go false y rest = ap (λ b. newer_of (cond b (Some w) (newest_version key at l)) v) y ∙ rest

  -- a version that is inserted is looked at like one that waits
  pub newest_inserted : (l : List Version) (v : Version) → AreOrdered l → IsNew v l → newest_version key at (insert_version l v) ≡ newest_with key at (newest_version key at l) v
  newest_inserted [] v ordered new = refl
  newest_inserted (w ∷ l) v ordered new =
      go (version_order v w) refl (newest_inserted l v (sorted_past version_order w l ordered).1 new.1)
    where
      past : AllByRecursion (λ u. version_order w u ≡ Less) l
      past = (sorted_past version_order w l ordered).0

      front : version_order v w ≡ Less → (b : Bool) → is_seen key at v ≡ b
          → cond b (Some v) (newest_version key at (w ∷ l)) ≡ cond b (newer_of (newest_version key at (w ∷ l)) v) (newest_version key at (w ∷ l))
      front less true y = sym (older v (w ∷ l) y (less, all_mapped (λ u. version_order w u ≡ Less) (λ u. version_order v u ≡ Less) (λ u p. version_total.trans v w u less p) l past))
      front less false y = refl

      behind : version_order w v ≡ Less → (b c : Bool) → is_seen key at w ≡ b → is_seen key at v ≡ c → newest_version key at (insert_version l v) ≡ newest_with key at (newest_version key at l) v
          → cond b (Some w) (newest_version key at (insert_version l v)) ≡ cond c (newer_of (cond b (Some w) (newest_version key at l)) v) (cond b (Some w) (newest_version key at l))
      behind less true true x y rest =
          let later = newer key at w v x y less in
          let test : ltb w.sequence v.sequence ≡ false = grind (arith, nat_tests) in
          sym (ap (λ b. cond b (Some v) (Some w)) test)
      behind less true false x y rest = refl
      behind less false true x y rest = rest ∙ ap (λ b. cond b (newer_of (newest_version key at l) v) (newest_version key at l)) y
      behind less false false x y rest = rest ∙ ap (λ b. cond b (newer_of (newest_version key at l) v) (newest_version key at l)) y

      go : (o : Ordering) → version_order v w ≡ o → newest_version key at (insert_version l v) ≡ newest_with key at (newest_version key at l) v
          → newest_version key at (match_ordering o (v ∷ w ∷ l) (w ∷ l) (w ∷ insert_version l v)) ≡ newest_with key at (newest_version key at (w ∷ l)) v
      go Less e rest = front e (is_seen key at v) refl
      go Equal e rest = absurd (new.0 e)
      go Greater e rest = behind (flip_greater version_order version_total v w e) (is_seen key at w) (is_seen key at v) refl refl rest

  pub newest_of_all : (versions late : List Version) → AreOrdered versions → AreNew versions late
      → newest_among key at (newest_version key at versions) late ≡ newest_version key at (with_versions versions late)
  newest_of_all versions [] ordered apart = refl
  newest_of_all versions (v ∷ late) ordered apart =
      ap (λ (o : Option Version). newest_among key at o late) (sym (newest_inserted versions v ordered apart.0))
      ∙ newest_of_all (insert_version versions v) late (sorted_inserted version_order version_total v versions ordered) apart.1
