-- A version that goes into a page below, or that gets an entry of a leaf; and a key that is looked up there.
use Rattle.std.proofs.Common.{◌≡◌, suc, List, [], ◌∷◌, ◌++◌, length, drop, Some, refl, sym, ap, ◌∙◌, subst, append_assoc}
use Rattle.std.proofs.lemmas.List.{append-nil}
use Rattle.std.specs.declared.cmp.Ordering.TheVariants.{Less, Equal, Greater}
use Rattle.model_base.specs.declared.key.Key.{Key}
use Rattle.model_base.specs.Map.{key_order}
use Rattle.table_rule.specs.declared.content.Version.{Version}
use Rattle.table_nodes.specs.Chains.{Chain, key_of, chain_order, AreSorted, with_version, alone, insert_in_chains}
use Rattle.table_tree.specs.Newest.{chain_at}
use Rattle.table_tree.proofs.Order.{all_both, sorted_front, sorted_back, sorted_past}
use Rattle.table_tree.specs.Pages.{Branch, woven}
use Rattle.table_tree.proofs.Weaving.{before, after, left_of, woven_page, woven_entry}
use Rattle.table_tree.specs.Places.{AreUnder, AreOver}
use Rattle.table_tree.proofs.Searching.{under_front, over_back, past_chains, here, in_front, stayed, skipped, cut, found_here}

-- what is before a page below is under the key, if the entries there are
under_before : (key : Key) (bs : List Branch) (front rest : List Chain) → AreSorted (before bs front ++ rest) → AreUnder key front → AreUnder key (before bs front)
under_before key [] front rest sorted under = tt
under_before key (b ∷ bs) [] rest sorted under = tt
under_before key (b ∷ bs) (e ∷ front) rest sorted under =
    let apart : AreSorted (b.chains ++ e ∷ (before bs front ++ rest)) = subst AreSorted (append_assoc b.chains (e ∷ before bs front) rest) sorted in
    let others = (sorted_past chain_order e (before bs front ++ rest) (sorted_back chain_order b.chains (e ∷ (before bs front ++ rest)) apart)).1 in
    all_both (λ (d : Chain). key_order key (key_of d) ≡ Greater) b.chains (e ∷ before bs front)
    (under_front key b.chains (before bs front ++ rest) e apart under.0) (under.0, under_before key bs front rest others under.1)

-- what is after a page below is over the key, if the entries there are
over_after : (key : Key) (back : List Chain) (cs : List Branch) → AreSorted (after back cs) → AreOver key back → AreOver key (after back cs)
over_after key [] cs sorted over = tt
over_after key (e ∷ back) cs sorted over = over_back key e _ sorted over.0

module _ (bs : List Branch) (front : List Chain) (b : Branch) (cs : List Branch) (back : List Chain) (same : length bs ≡ length front)
    (sorted : AreSorted (woven (bs ++ b ∷ cs) (front ++ back))) where
  parts : AreSorted (before bs front ++ (b.chains ++ after back cs))
  parts = subst AreSorted (woven_page bs front b cs back same) sorted

  behind : AreSorted (b.chains ++ after back cs)
  behind = sorted_back chain_order (before bs front) (b.chains ++ after back cs) parts

  pub sorted_page : AreSorted b.chains
  sorted_page = sorted_front chain_order b.chains (after back cs) behind

  module _ (key : Key) (under : AreUnder key front) (over : AreOver key back) where
    under_all : AreUnder key (before bs front)
    under_all = under_before key bs front (b.chains ++ after back cs) parts under

    over_all : AreOver key (after back cs)
    over_all = over_after key back cs (sorted_back chain_order b.chains (after back cs) behind) over

    pub found_below : chain_at key (woven (bs ++ b ∷ cs) (front ++ back)) ≡ chain_at key b.chains
    found_below =
        ap (chain_at key) (woven_page bs front b cs back same)
        ∙ skipped key (before bs front) (b.chains ++ after back cs) under_all
        ∙ cut key b.chains (after back cs) over_all

  -- the version goes into the page, which is another one then
  pub went_below : (v : Version) (new : Branch) → AreUnder v.key front → AreOver v.key back → new.chains ≡ insert_in_chains b.chains v
      → woven (bs ++ new ∷ cs) (front ++ back) ≡ insert_in_chains (woven (bs ++ b ∷ cs) (front ++ back)) v
  went_below v new under over is =
      woven_page bs front new cs back same
      ∙ ap (λ (l : List Chain). before bs front ++ (l ++ after back cs)) is
      ∙ ap (λ (l : List Chain). before bs front ++ l) (sym (inserted back over))
      ∙ sym (past_chains v (before bs front) (b.chains ++ after back cs) (under_all v.key under over))
      ∙ sym (ap (λ (l : List Chain). insert_in_chains l v) (woven_page bs front b cs back same))
    where
      inserted : (back : List Chain) → AreOver v.key back → insert_in_chains (b.chains ++ after back cs) v ≡ insert_in_chains b.chains v ++ after back cs
      inserted [] over = ap (λ (l : List Chain). insert_in_chains l v) (append-nil b.chains) ∙ sym (append-nil (insert_in_chains b.chains v))
      inserted (e ∷ back) over = in_front v e b.chains (woven cs back) over.0

-- the version gets an entry of a leaf
pub placed : (v : Version) (front back : List Chain) → AreUnder v.key front → AreOver v.key back
    → front ++ alone v ∷ back ≡ insert_in_chains (front ++ back) v
placed v front back under over = ap (λ (l : List Chain). front ++ l) (sym (first back over)) ∙ sym (past_chains v front back under)
  where
    first : (back : List Chain) → AreOver v.key back → insert_in_chains back v ≡ alone v ∷ back
    first [] over = refl
    first (e ∷ back) over = here v Less e back over.0

module _ (below : List Branch) (front : List Chain) (c : Chain) (back : List Chain) (sorted : AreSorted (woven below (front ++ c ∷ back))) where
  abbrev rest : List Chain
  rest = woven (drop (suc (length front)) below) back

  entry : AreSorted (left_of below front ++ c ∷ rest)
  entry = subst AreSorted (woven_entry below front c back) sorted

  -- the version's key has an entry
  pub stayed_here : (v : Version) → key_order v.key (key_of c) ≡ Equal → woven below (front ++ with_version c v ∷ back) ≡ insert_in_chains (woven below (front ++ c ∷ back)) v
  stayed_here v p =
      woven_entry below front (with_version c v) back
      ∙ sym (stayed v (left_of below front) rest c entry p)
      ∙ sym (ap (λ (l : List Chain). insert_in_chains l v) (woven_entry below front c back))

  pub found_entry : (key : Key) → key_order key (key_of c) ≡ Equal → chain_at key (woven below (front ++ c ∷ back)) ≡ Some c
  found_entry key p = ap (chain_at key) (woven_entry below front c back) ∙ found_here key (left_of below front) rest c entry p
