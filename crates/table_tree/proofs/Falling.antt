-- In chains whose versions are in order, the older versions of each chain fall in sequence.
use Rattle.std.proofs.Common.{◌≡◌, ℕ, suc, zero, ◌<◌, ◌≤◌, Bool, true, false, cond, List, [], ◌∷◌, ◌++◌, Some, length, refl, sym, ap, ◌∙◌, subst, arith}
use Rattle.std.proofs.lemmas.Cmp.{tied_itself, ranked}
use Rattle.std.specs.BTreeMap.{is_at}
use Rattle.std.specs.List.{AllByRecursion}
use Rattle.std.specs.Ordering.{nat_cmp, ordering_then}
use Rattle.std.specs.declared.cmp.Ordering.{Ordering}
use Rattle.std.specs.declared.cmp.Ordering.TheVariants.{Less, Equal, Greater}
use Rattle.model_base.specs.declared.key.Key.{Key}
use Rattle.model_base.specs.Map.{key_order}
use Rattle.table_rule.proofs.Keys.{key_total}
use Rattle.table_rule.specs.declared.content.Version.{Version}
use Rattle.table_nodes.specs.Chains.{Chain, key_of, Falls, AreFalling, HasOneKey, versions_of}
use Rattle.table_tree.specs.Newest.{chain_at}
use Rattle.table_tree.specs.Pages.{Branch, woven}
use Rattle.table_tree.specs.Ranges.{page_at}
use Rattle.table_tree.specs.Versions.{version_order, AreOrdered}
use Rattle.table_tree.proofs.Order.{all_front, all_back, sorted_past}

-- of one key the earlier version is the newer
newer_first : (v w : Version) → w.key ≡ v.key → version_order v w ≡ Less → w.sequence < v.sequence
newer_first v w same less =
    lower (nat_cmp w.sequence v.sequence) refl (sym (ap (λ o. ordering_then o (nat_cmp w.sequence v.sequence)) (ap (key_order v.key) same ∙ tied_itself key_total v.key)) ∙ less)
  where
    lower : (o : Ordering) → nat_cmp w.sequence v.sequence ≡ o → ordering_then Equal o ≡ Less → w.sequence < v.sequence
    lower Less is e = ranked w.sequence v.sequence Less (sym is)
    lower Equal is e = absurd (cc)
    lower Greater is e = absurd (cc)

module _ (key : Key) where
  -- versions of one key in order fall
  falls_of_one : (older more : List Version) → AllByRecursion (λ (v : Version). v.key ≡ key) older → AreOrdered (older ++ more) → Falls older
  falls_of_one [] more same ordered = tt
  falls_of_one (v ∷ older) more same ordered =
      let past = sorted_past version_order v (older ++ more) ordered in
      (each older same.1 (all_front (λ w. version_order v w ≡ Less) older more past.0), falls_of_one older more same.1 past.1)
    where
      each : (l : List Version) → AllByRecursion (λ (w : Version). w.key ≡ key) l → AllByRecursion (λ w. version_order v w ≡ Less) l
          → AllByRecursion (λ (w : Version). w.sequence < v.sequence) l
      each [] k a = tt
      each (w ∷ l) k a = (newer_first v w (k.0 ∙ sym same.0) a.0, each l k.1 a.1)

ordered_back : (l m : List Version) → AreOrdered (l ++ m) → AreOrdered m
ordered_back [] m o = o
ordered_back (v ∷ l) m o = ordered_back l m (sorted_past version_order v (l ++ m) o).1

pub falling_of : (chains : List Chain) → AreOrdered (versions_of chains) → AllByRecursion HasOneKey chains → AreFalling chains
falling_of [] ordered each = tt
falling_of (c ∷ chains) ordered each =
    let past = (sorted_past version_order c.newest (c.older ++ versions_of chains) ordered).1 in
    (falls_of_one (key_of c) c.older (versions_of chains) each.0 past, falling_of chains (ordered_back c.older (versions_of chains) past) each.1)

-- the chain that is found is one of them
pub falling_found : (key : Key) (chains : List Chain) (c : Chain) → AreFalling chains → chain_at key chains ≡ Some c → Falls c.older
falling_found key [] c falling found = absurd (cc)
falling_found key (d ∷ chains) c falling found = go (is_at (key_order key) (key_of d)) (falling_found key chains c falling.1) found
  where
    some_is : Some d ≡ Some c → d ≡ c
    some_is e = cc

    go : (b : Bool) → (chain_at key chains ≡ Some c → Falls c.older) → cond b (Some d) (chain_at key chains) ≡ Some c → Falls c.older
    go true later e = subst (λ (x : Chain). Falls x.older) (some_is e) falling.0
    go false later e = later e

-- the chains of the page at a place are some of them
pub falling_at : (below : List Branch) (entries : List Chain) (at : ℕ) → AreFalling (woven below entries) → at ≤ length entries → AreFalling (page_at below at)
falling_at [] entries at falling within = tt
falling_at (b ∷ below) [] zero falling within = falling
falling_at (b ∷ below) [] (suc at) falling within = absurd (omega (arith, within))
falling_at (b ∷ below) (e ∷ entries) zero falling within = all_front (λ (c : Chain). Falls c.older) b.chains (e ∷ woven below entries) falling
falling_at (b ∷ below) (e ∷ entries) (suc at) falling within =
    falling_at below entries at (all_back (λ (c : Chain). Falls c.older) b.chains (e ∷ woven below entries) falling).1 (omega (arith, within))
