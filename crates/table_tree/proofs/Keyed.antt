-- Chains of distinct keys with one more version: the keys stay distinct, and the versions are those that there were,
-- with the new one at its place.
use Rattle.std.proofs.Common.{◌≡◌, ◌≢◌, ◌≤◌, true, false, cond, leb, List, [], ◌∷◌, ◌++◌, refl, sym, ap, ◌∙◌, subst, arith}
use Rattle.std.proofs.lemmas.Bool.{le-leb}
use Rattle.std.proofs.lemmas.Cmp.{ranked, tied_itself}
use Rattle.std.specs.List.{AllByRecursion}
use Rattle.std.specs.List.Sorted.{IsStrictlySortedBy}
use Rattle.std.specs.Ordering.{nat_cmp, ordering_then, match_ordering}
use Rattle.std.specs.declared.cmp.Ordering.{Ordering}
use Rattle.std.specs.declared.cmp.Ordering.TheVariants.{Less, Equal, Greater}
use Rattle.model_base.specs.declared.key.Key.{Key}
use Rattle.model_base.specs.Map.{key_order}
use Rattle.table_rule.specs.declared.content.Version.{Version}
use Rattle.table_tree.specs.Versions.{version_order, IsNew, insert_version}
use Rattle.table_nodes.specs.Chains.{Chain, key_of, chain_versions, versions_of, HasOneKey, chain_order, AreSorted, AreKeyed, insert_older, with_version, alone, insert_in_chains}
use Rattle.table_tree.proofs.Order.{all_mapped, all_both, all_front, all_back, insert_first, insert_behind, flip_greater}
use Rattle.table_rule.proofs.Keys.{key_total, equal_keys}
use Rattle.table_tree.proofs.VersionOrder.{version_total, leb_above}

-- in sorted chains the first is below the others, and the others are sorted
pub first_sorted : (c : Chain) (cs : List Chain) → AreSorted (c ∷ cs) → AllByRecursion (λ d. chain_order c d ≡ Less) cs × AreSorted cs
unfolding IsStrictlySortedBy
first_sorted c cs s = s

pub others_keyed : (c : Chain) (cs : List Chain) → AreKeyed (c ∷ cs) → AreKeyed cs
others_keyed c cs k = record { sorted = (first_sorted c cs k.sorted).1; each = k.each.1 }

-- what holds of the keys of chains holds of the keys of their versions
pub all_keys : (P : Key → Type 0) (cs : List Chain) → AllByRecursion (λ c. P (key_of c)) cs → AllByRecursion HasOneKey cs → AllByRecursion (λ (x : Version). P x.key) (versions_of cs)
all_keys P [] a k = tt
all_keys P (c ∷ cs) a k = (
  a.0,
  all_both (λ (x : Version). P x.key) c.older (versions_of cs)
      (all_mapped (λ (x : Version). x.key ≡ key_of c) (λ (x : Version). P x.key) (λ x e. subst P (sym e) a.0) c.older k.0) (all_keys P cs a.1 k.1),
)

abbrev as_older : Version → Chain → Chain
as_older v c = record c { older = insert_older c.older v }

abbrev as_newest : Version → Chain → Chain
as_newest v c = record { newest = v; older = chain_versions c }

module _ (v : Version) where
  same_order : (w : Version) → w.key ≡ v.key → version_order v w ≡ nat_cmp w.sequence v.sequence
  same_order w e =
      ap (λ k. ordering_then (key_order v.key k) (nat_cmp w.sequence v.sequence)) e
      ∙ ap (λ o. ordering_then o (nat_cmp w.sequence v.sequence)) (tied_itself key_total v.key)

  less_order : (w : Version) → key_order v.key w.key ≡ Less → version_order v w ≡ Less
  less_order w e = ap (λ o. ordering_then o (nat_cmp w.sequence v.sequence)) e

  order_less : (w : Version) → key_order w.key v.key ≡ Less → version_order w v ≡ Less
  order_less w e = ap (λ o. ordering_then o (nat_cmp v.sequence w.sequence)) e

  first_of_all : (r : List Version) → AllByRecursion (λ x. version_order v x ≡ Less) r → insert_version r v ≡ v ∷ r
  first_of_all [] a = refl
  first_of_all (x ∷ r) a = insert_first version_order v x r a.0

  module _ (rest : List Version) (past : AllByRecursion (λ x. version_order v x ≡ Less) rest) where
    older_inserted : (older : List Version) → AllByRecursion (λ (w : Version). w.key ≡ v.key) older → IsNew v older → insert_version (older ++ rest) v ≡ insert_older older v ++ rest
    older_inserted [] k n = first_of_all rest past
    older_inserted (w ∷ older) k n =
        ap (λ o. match_ordering o (v ∷ w ∷ (older ++ rest)) (w ∷ (older ++ rest)) (w ∷ insert_version (older ++ rest) v)) (same_order w k.0)
        ∙ go (nat_cmp w.sequence v.sequence) refl (older_inserted older k.1 n.1)
      where
        go : (o : Ordering) → nat_cmp w.sequence v.sequence ≡ o → insert_version (older ++ rest) v ≡ insert_older older v ++ rest
            → match_ordering o (v ∷ w ∷ (older ++ rest)) (w ∷ (older ++ rest)) (w ∷ insert_version (older ++ rest) v)
            ≡ cond (leb w.sequence v.sequence) (v ∷ w ∷ older) (w ∷ insert_older older v) ++ rest
        go Less e ih =
            let less = ranked w.sequence v.sequence Less (sym e) in
            let le : w.sequence ≤ v.sequence = omega arith in
            ap (λ b. cond b (v ∷ w ∷ older) (w ∷ insert_older older v) ++ rest) (sym (le-leb w.sequence v.sequence le))
        go Equal e ih = absurd (n.0 (same_order w k.0 ∙ e))
        go Greater e ih =
            let less = ranked w.sequence v.sequence Greater (sym e) in
            ap (λ (l : List Version). w ∷ l) ih
            ∙ ap (λ b. cond b (v ∷ w ∷ older) (w ∷ insert_older older v) ++ rest) (sym (leb_above w.sequence v.sequence less))

    chain_inserted : (c : Chain) → HasOneKey c → key_of c ≡ v.key → IsNew v (c.newest ∷ (c.older ++ rest)) → insert_version (c.newest ∷ (c.older ++ rest)) v ≡ chain_versions (with_version c v) ++ rest
    chain_inserted c one same n =
        ap (λ o. match_ordering o (v ∷ c.newest ∷ (c.older ++ rest)) (c.newest ∷ (c.older ++ rest)) (c.newest ∷ insert_version (c.older ++ rest) v)) (same_order c.newest same)
        ∙ go (nat_cmp c.newest.sequence v.sequence) refl
        (older_inserted c.older (all_mapped (λ (w : Version). w.key ≡ key_of c) (λ (w : Version). w.key ≡ v.key) (λ w e. e ∙ same) c.older one) (all_front (λ x. version_order v x ≢ Equal) c.older rest n.1))
      where
        go : (o : Ordering) → nat_cmp c.newest.sequence v.sequence ≡ o → insert_version (c.older ++ rest) v ≡ insert_older c.older v ++ rest
            → match_ordering o (v ∷ c.newest ∷ (c.older ++ rest)) (c.newest ∷ (c.older ++ rest)) (c.newest ∷ insert_version (c.older ++ rest) v)
            ≡ chain_versions (cond (leb v.sequence c.newest.sequence) (as_older v c) (as_newest v c)) ++ rest
        go Less e behind =
            let less = ranked c.newest.sequence v.sequence Less (sym e) in
            ap (λ b. chain_versions (cond b (as_older v c) (as_newest v c)) ++ rest) (sym (leb_above v.sequence c.newest.sequence less))
        go Equal e behind = absurd (n.0 (same_order c.newest same ∙ e))
        go Greater e behind =
            let less = ranked c.newest.sequence v.sequence Greater (sym e) in
            let le : v.sequence ≤ c.newest.sequence = omega arith in
            ap (λ (l : List Version). c.newest ∷ l) behind
            ∙ ap (λ b. chain_versions (cond b (as_older v c) (as_newest v c)) ++ rest) (sym (le-leb v.sequence c.newest.sequence le))

  -- v comes before the versions of chains with keys greater than its own
  greater_past : (k : Key) (cs : List Chain) → key_order v.key k ≡ Equal → AllByRecursion (λ d. key_order k (key_of d) ≡ Less) cs → AllByRecursion HasOneKey cs → AllByRecursion (λ x. version_order v x ≡ Less) (versions_of cs)
  greater_past k cs e a each =
      all_mapped (λ (x : Version). key_order k x.key ≡ Less) (λ x. version_order v x ≡ Less) (λ x p. less_order x (key_total.congr v.key k x.key e ∙ p)) (versions_of cs)
      (all_keys (λ q. key_order k q ≡ Less) cs a each)

  pub inserted_versions : (cs : List Chain) → AreKeyed cs → IsNew v (versions_of cs) → versions_of (insert_in_chains cs v) ≡ insert_version (versions_of cs) v
  inserted_versions [] k n = refl
  inserted_versions (c ∷ cs) k n = go (key_order v.key (key_of c)) refl (inserted_versions cs (others_keyed c cs k) (all_back (λ x. version_order v x ≢ Equal) c.older (versions_of cs) n.1))
    where
      go : (o : Ordering) → key_order v.key (key_of c) ≡ o → versions_of (insert_in_chains cs v) ≡ insert_version (versions_of cs) v
          → versions_of (match_ordering o (alone v ∷ c ∷ cs) (with_version c v ∷ cs) (c ∷ insert_in_chains cs v)) ≡ insert_version (c.newest ∷ (c.older ++ versions_of cs)) v
      go Less e rest = sym (insert_first version_order v c.newest (c.older ++ versions_of cs) (less_order c.newest e))
      go Equal e rest =
          sym (chain_inserted (versions_of cs) (greater_past (key_of c) cs e (first_sorted c cs k.sorted).0 k.each.1) c k.each.0 (sym (equal_keys v.key (key_of c) e)) n)
      go Greater e rest =
          let less = flip_greater key_order key_total v.key (key_of c) e in
          let front : AllByRecursion (λ w. version_order w v ≡ Less) (chain_versions c) =
          (order_less c.newest less, all_mapped (λ (w : Version). w.key ≡ key_of c) (λ w. version_order w v ≡ Less) (λ w same. order_less w (ap (λ q. key_order q v.key) same ∙ less)) c.older k.each.0) in
          ap (λ (l : List Version). chain_versions c ++ l) rest ∙ sym (insert_behind version_order version_total v (chain_versions c) (versions_of cs) front)

  with_key : (P : Key → Type 0) (c : Chain) → P v.key → P (key_of c) → P (key_of (with_version c v))
  with_key P c p q = elim (leb v.sequence c.newest.sequence) as (λ b. P (key_of (cond b (as_older v c) (as_newest v c)))) [ true ↦ q | false ↦ p ]

  all_keys_inserted : (P : Key → Type 0) (cs : List Chain) → P v.key → AllByRecursion (λ c. P (key_of c)) cs → AllByRecursion (λ c. P (key_of c)) (insert_in_chains cs v)
  all_keys_inserted P [] p a = (p, tt)
  all_keys_inserted P (c ∷ cs) p a =
      elim (key_order v.key (key_of c)) as (λ o. AllByRecursion (λ d. P (key_of d)) (match_ordering o (alone v ∷ c ∷ cs) (with_version c v ∷ cs) (c ∷ insert_in_chains cs v))) [
        | Less ↦ (p, a)
        | Equal ↦ (with_key P c p a.0, a.1)
        | Greater ↦ (a.0, all_keys_inserted P cs p a.1)
      ]

  sorted_here : (c : Chain) (cs : List Chain) (o : Ordering) → key_order v.key (key_of c) ≡ o → AreSorted (c ∷ cs) → AreSorted (insert_in_chains cs v)
      → AreSorted (match_ordering o (alone v ∷ c ∷ cs) (with_version c v ∷ cs) (c ∷ insert_in_chains cs v))
  unfolding IsStrictlySortedBy
  sorted_here c cs Less e s t =
      ((e, all_mapped (λ d. chain_order c d ≡ Less) (λ d. key_order v.key (key_of d) ≡ Less) (λ d p. key_total.trans v.key (key_of c) (key_of d) e p) cs s.0), s)
  sorted_here c cs Equal e s t = (
    all_mapped (λ d. chain_order c d ≡ Less) (λ d. chain_order (with_version c v) d ≡ Less)
        (λ d p. with_key (λ k. key_order k (key_of d) ≡ Less) c (key_total.congr v.key (key_of c) (key_of d) e ∙ p) p) cs s.0,
    s.1,
  )
  sorted_here c cs Greater e s t = (all_keys_inserted (λ k. key_order (key_of c) k ≡ Less) cs (flip_greater key_order key_total v.key (key_of c) e) s.0, t)

  sorted_inserted_chains : (cs : List Chain) → AreSorted cs → AreSorted (insert_in_chains cs v)
  unfolding IsStrictlySortedBy
  sorted_inserted_chains [] s = (tt, tt)
  sorted_inserted_chains (c ∷ cs) s = sorted_here c cs (key_order v.key (key_of c)) refl s (sorted_inserted_chains cs s.1)

  all_older : (P : Version → Type 0) (l : List Version) → P v → AllByRecursion P l → AllByRecursion P (insert_older l v)
  all_older P [] p a = (p, tt)
  all_older P (w ∷ l) p a =
      elim (leb w.sequence v.sequence) as (λ b. AllByRecursion P (cond b (v ∷ w ∷ l) (w ∷ insert_older l v))) [
        | true ↦ (p, a)
        | false ↦ (a.0, all_older P l p a.1)
      ]

  with_one_key : (c : Chain) → v.key ≡ key_of c → HasOneKey c → HasOneKey (with_version c v)
  with_one_key c same one =
      elim (leb v.sequence c.newest.sequence) as (λ b. HasOneKey (cond b (as_older v c) (as_newest v c))) [
        | true ↦ all_older (λ (x : Version). x.key ≡ key_of c) c.older same one
        | false ↦ (sym same, all_mapped (λ (x : Version). x.key ≡ key_of c) (λ (x : Version). x.key ≡ v.key) (λ x e. e ∙ sym same) c.older one)
      ]

  each_inserted : (cs : List Chain) → AllByRecursion HasOneKey cs → AllByRecursion HasOneKey (insert_in_chains cs v)
  each_inserted [] k = (tt, tt)
  each_inserted (c ∷ cs) k = go (key_order v.key (key_of c)) refl (each_inserted cs k.1)
    where
      go : (o : Ordering) → key_order v.key (key_of c) ≡ o → AllByRecursion HasOneKey (insert_in_chains cs v)
          → AllByRecursion HasOneKey (match_ordering o (alone v ∷ c ∷ cs) (with_version c v ∷ cs) (c ∷ insert_in_chains cs v))
      go Less e rest = (tt, k)
      go Equal e rest = (with_one_key c (equal_keys v.key (key_of c) e) k.0, k.1)
      go Greater e rest = (k.0, rest)

  pub keyed_inserted : (cs : List Chain) → AreKeyed cs → AreKeyed (insert_in_chains cs v)
  keyed_inserted cs k = record { sorted = sorted_inserted_chains cs k.sorted; each = each_inserted cs k.each }
