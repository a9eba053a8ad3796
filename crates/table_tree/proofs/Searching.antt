-- Where the chain of a key is, and where a version goes, by how its key compares with that of one chain in a sorted list.
use Rattle.std.proofs.Common.{◌≡◌, ◌≢◌, false, cond, List, [], ◌∷◌, ◌++◌, Some, None, refl, ap, ◌∙◌}
use Rattle.std.proofs.lemmas.Cmp.{tied_back}
use Rattle.std.specs.Ordering.{is_eq, match_ordering}
use Rattle.std.specs.declared.cmp.Ordering.{Ordering}
use Rattle.std.specs.declared.cmp.Ordering.TheVariants.{Less, Equal, Greater}
use Rattle.std.specs.BTreeMap.{is_at}
use Rattle.model_base.specs.declared.key.Key.{Key}
use Rattle.model_base.specs.Map.{key_order}
use Rattle.table_rule.specs.declared.content.Version.{Version}
use Rattle.table_nodes.specs.Chains.{Chain, key_of, chain_order, AreSorted, with_version, alone, insert_in_chains}
use Rattle.table_tree.specs.Places.{AreUnder, AreOver}
use Rattle.table_tree.specs.Newest.{chain_at}
use Rattle.table_tree.proofs.Order.{all_mapped, before_middle, less_le, flip_less, flip_greater}
use Rattle.table_tree.proofs.Keyed.{first_sorted}
use Rattle.table_rule.proofs.Keys.{key_total}

le_when_above : (key : Key) (c : Chain) → key_order key (key_of c) ≡ Greater → key_order (key_of c) key ≢ Greater
le_when_above key c p q = let less = flip_greater key_order key_total key (key_of c) p in absurd (cc)

le_when_same : (key : Key) (c : Chain) → key_order key (key_of c) ≡ Equal → key_order (key_of c) key ≢ Greater
le_when_same key c p q = let same = tied_back key_total key (key_of c) p in absurd (cc)

-- a key that isn't below that of a chain is above those of the chains before it
front_under : (key : Key) (l r : List Chain) (c : Chain) → AreSorted (l ++ c ∷ r) → key_order (key_of c) key ≢ Greater → AreUnder key l
front_under key l r c sorted le =
    all_mapped (λ d. chain_order d c ≡ Less) (λ d. key_order key (key_of d) ≡ Greater)
    (λ d p. flip_less key_order key_total (key_of d) key (less_le key_order key_total (key_of d) (key_of c) key p le)) l (before_middle chain_order l c r sorted)

pub under_front : (key : Key) (l r : List Chain) (c : Chain) → AreSorted (l ++ c ∷ r) → key_order key (key_of c) ≡ Greater → AreUnder key l
under_front key l r c sorted p = front_under key l r c sorted (le_when_above key c p)

pub under_same : (key : Key) (l r : List Chain) (c : Chain) → AreSorted (l ++ c ∷ r) → key_order key (key_of c) ≡ Equal → AreUnder key l
under_same key l r c sorted p = front_under key l r c sorted (le_when_same key c p)

-- a key below that of a chain is below those of the chains after it
pub over_back : (key : Key) (c : Chain) (r : List Chain) → AreSorted (c ∷ r) → key_order key (key_of c) ≡ Less → AreOver key (c ∷ r)
over_back key c r sorted p = (
  p,
  all_mapped (λ d. chain_order c d ≡ Less) (λ d. key_order key (key_of d) ≡ Less) (λ d q. key_total.trans key (key_of c) (key_of d) p q) r (first_sorted c r sorted).0,
)

module _ (v : Version) where
  pub past_chains : (l m : List Chain) → AreUnder v.key l → insert_in_chains (l ++ m) v ≡ l ++ insert_in_chains m v
  past_chains [] m a = refl
  past_chains (d ∷ l) m a =
      ap (λ o. match_ordering o (alone v ∷ d ∷ (l ++ m)) (with_version d v ∷ (l ++ m)) (d ∷ insert_in_chains (l ++ m) v)) a.0
      ∙ ap (λ (t : List Chain). d ∷ t) (past_chains l m a.1)

  pub here : (o : Ordering) (c : Chain) (r : List Chain) → key_order v.key (key_of c) ≡ o
      → insert_in_chains (c ∷ r) v ≡ match_ordering o (alone v ∷ c ∷ r) (with_version c v ∷ r) (c ∷ insert_in_chains r v)
  here o c r p = ap (λ o. match_ordering o (alone v ∷ c ∷ r) (with_version c v ∷ r) (c ∷ insert_in_chains r v)) p

  pub in_front : (c : Chain) (l r : List Chain) → key_order v.key (key_of c) ≡ Less → insert_in_chains (l ++ c ∷ r) v ≡ insert_in_chains l v ++ c ∷ r
  in_front c [] r p = here Less c r p
  in_front c (d ∷ l) r p =
      elim (key_order v.key (key_of d)) as (λ o. match_ordering o (alone v ∷ d ∷ (l ++ c ∷ r)) (with_version d v ∷ (l ++ c ∷ r)) (d ∷ insert_in_chains (l ++ c ∷ r) v)
      ≡ match_ordering o (alone v ∷ d ∷ l) (with_version d v ∷ l) (d ∷ insert_in_chains l v) ++ c ∷ r) [
        | Less ↦ refl
        | Equal ↦ refl
        | Greater ↦ ap (λ (t : List Chain). d ∷ t) (in_front c l r p)
      ]

  -- the version's key has a chain
  pub stayed : (l r : List Chain) (c : Chain) → AreSorted (l ++ c ∷ r) → key_order v.key (key_of c) ≡ Equal
      → insert_in_chains (l ++ c ∷ r) v ≡ l ++ with_version c v ∷ r
  stayed l r c sorted p =
      past_chains l (c ∷ r) (front_under v.key l r c sorted (le_when_same v.key c p))
      ∙ ap (λ (t : List Chain). l ++ t) (here Equal c r p)

module _ (key : Key) where
  not_at : (d : Chain) (o : Ordering) → key_order key (key_of d) ≡ o → o ≢ Equal → is_at (key_order key) (key_of d) ≡ false
  not_at d Less p n = ap is_eq p
  not_at d Equal p n = absurd (n refl)
  not_at d Greater p n = ap is_eq p

  pub skipped : (k m : List Chain) → AreUnder key k → chain_at key (k ++ m) ≡ chain_at key m
  skipped [] m a = refl
  skipped (d ∷ k) m a = ap (λ b. cond b (Some d) (chain_at key (k ++ m))) (not_at d Greater a.0 (λ e. cc)) ∙ skipped k m a.1

  pub none : (m : List Chain) → AreOver key m → chain_at key m ≡ None
  none [] a = refl
  none (d ∷ m) a = ap (λ b. cond b (Some d) (chain_at key m)) (not_at d Less a.0 (λ e. cc)) ∙ none m a.1

  pub cut : (k m : List Chain) → AreOver key m → chain_at key (k ++ m) ≡ chain_at key k
  cut [] m a = none m a
  cut (d ∷ k) m a = ap (cond (is_at (key_order key) (key_of d)) (Some d)) (cut k m a)

  pub found_here : (l r : List Chain) (c : Chain) → AreSorted (l ++ c ∷ r) → key_order key (key_of c) ≡ Equal → chain_at key (l ++ c ∷ r) ≡ Some c
  found_here l r c sorted p =
      skipped l (c ∷ r) (front_under key l r c sorted (le_when_same key c p)) ∙ ap (λ o. cond (is_eq o) (Some c) (chain_at key r)) p
