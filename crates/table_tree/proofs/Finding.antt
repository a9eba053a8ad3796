-- The newest version of a key, by the key's chain.
use Rattle.std.proofs.Common.{◌≡◌, ◌≢◌, ℕ, true, false, cond, ◌&&◌, leb, List, [], ◌∷◌, ◌++◌, Some, None, refl, sym, ap, ◌∙◌}
use Rattle.std.proofs.lemmas.Bool.{and_left}
use Rattle.std.specs.List.{AllByRecursion}
use Rattle.std.specs.Ordering.{is_eq}
use Rattle.std.specs.BTreeMap.{is_at}
use Rattle.std.specs.declared.cmp.Ordering.{Ordering}
use Rattle.std.specs.declared.cmp.Ordering.TheVariants.{Less, Equal, Greater}
use Rattle.model_base.specs.declared.key.Key.{Key}
use Rattle.model_base.specs.Map.{key_order}
use Rattle.table_rule.specs.declared.content.Version.{Version}
use Rattle.table_nodes.specs.Chains.{Chain, key_of, chain_versions, versions_of, HasOneKey, chain_order, AreKeyed}
use Rattle.table_nodes.specs.Newest.{is_seen, first_up_to}
use Rattle.table_tree.specs.Newest.{newest_version, chain_at, newest_in}
use Rattle.table_tree.proofs.Order.{all_mapped}
use Rattle.table_tree.proofs.Keyed.{first_sorted, others_keyed, all_keys}
use Rattle.table_rule.proofs.Keys.{key_total}

module _ (key : Key) (at : ℕ) where
  unseen_key : (v : Version) (o : Ordering) → key_order key v.key ≡ o → o ≢ Equal → is_seen key at v ≡ false
  unseen_key v Less p n = and_left _ _ (ap is_eq p)
  unseen_key v Equal p n = absurd (n refl)
  unseen_key v Greater p n = and_left _ _ (ap is_eq p)

  newest_past : (l m : List Version) → AllByRecursion (λ v. is_seen key at v ≡ false) l → newest_version key at (l ++ m) ≡ newest_version key at m
  newest_past [] m a = refl
  newest_past (v ∷ l) m a = ap (λ b. cond b (Some v) (newest_version key at (l ++ m))) a.0 ∙ newest_past l m a.1

  newest_none : (l : List Version) → AllByRecursion (λ v. is_seen key at v ≡ false) l → newest_version key at l ≡ None
  newest_none [] a = refl
  newest_none (v ∷ l) a = ap (λ b. cond b (Some v) (newest_version key at l)) a.0 ∙ newest_none l a.1

  newest_of_one : (l m : List Version) → AllByRecursion (λ (v : Version). is_at (key_order key) v.key ≡ true) l → newest_version key at m ≡ None → newest_version key at (l ++ m) ≡ first_up_to at l
  newest_of_one [] m a n = n
  newest_of_one (v ∷ l) m a n =
      ap (λ b. cond (b && leb v.sequence at) (Some v) (newest_version key at (l ++ m))) a.0
      ∙ ap (cond (leb v.sequence at) (Some v)) (newest_of_one l m a.1 n)

  -- all versions of a chain have its key
  all_of_chain : (P : Key → Type 0) (c : Chain) → HasOneKey c → P (key_of c) → AllByRecursion (λ (v : Version). P v.key) (chain_versions c)
  all_of_chain P c one p = (p, all_mapped (λ (v : Version). v.key ≡ key_of c) (λ (v : Version). P v.key) (λ v e. Rattle.std.proofs.Common.subst P (sym e) p) c.older one)

  other_chain : (c : Chain) (o : Ordering) → HasOneKey c → key_order key (key_of c) ≡ o → o ≢ Equal → AllByRecursion (λ v. is_seen key at v ≡ false) (chain_versions c)
  other_chain c o one p n =
      all_mapped (λ (v : Version). key_order key v.key ≡ o) (λ v. is_seen key at v ≡ false) (λ v q. unseen_key v o q n) (chain_versions c)
      (all_of_chain (λ k. key_order key k ≡ o) c one p)

  pub newest_chain : (cs : List Chain) → AreKeyed cs → newest_version key at (versions_of cs) ≡ newest_in at (chain_at key cs)
  newest_chain [] k = refl
  newest_chain (c ∷ cs) k = go (key_order key (key_of c)) refl (newest_chain cs (others_keyed c cs k))
    where
      back : (o : Ordering) → key_order key (key_of c) ≡ o → newest_in at (cond (is_eq o) (Some c) (chain_at key cs)) ≡ newest_in at (chain_at key (c ∷ cs))
      back o p = ap (λ o. newest_in at (cond (is_eq o) (Some c) (chain_at key cs))) (sym p)

      go : (o : Ordering) → key_order key (key_of c) ≡ o → newest_version key at (versions_of cs) ≡ newest_in at (chain_at key cs)
          → newest_version key at (chain_versions c ++ versions_of cs) ≡ newest_in at (chain_at key (c ∷ cs))
      go Less p rest = newest_past (chain_versions c) (versions_of cs) (other_chain c Less k.each.0 p (λ e. cc)) ∙ rest ∙ back Less p
      go Equal p rest =
          let later = all_mapped (λ d. chain_order c d ≡ Less) (λ d. key_order key (key_of d) ≡ Less) (λ d q. key_total.congr key (key_of c) (key_of d) p ∙ q) cs (first_sorted c cs k.sorted).0 in
          let none = newest_none (versions_of cs) (all_mapped (λ (v : Version). key_order key v.key ≡ Less) (λ v. is_seen key at v ≡ false) (λ v q. unseen_key v Less q (λ e. cc)) (versions_of cs)
          (all_keys (λ q. key_order key q ≡ Less) cs later k.each.1)) in
          newest_of_one (chain_versions c) (versions_of cs) (all_of_chain (λ q. is_at (key_order key) q ≡ true) c k.each.0 (ap is_eq p)) none ∙ back Equal p
      go Greater p rest = newest_past (chain_versions c) (versions_of cs) (other_chain c Greater k.each.0 p (λ e. cc)) ∙ rest ∙ back Greater p
