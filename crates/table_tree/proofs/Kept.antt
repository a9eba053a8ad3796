-- What a page keeps, as it is changed: a page below in place of another, a key with one more version, a new entry of a
-- leaf, a split below, and the two halves of a page that is split.
use Rattle.std.proofs.Common.{◌≡◌, true, false, cond, leb, ℕ, zero, suc, ◌+◌, ◌*◌, ◌^◌, ◌<◌, ◌≤◌, List, [], ◌∷◌, ◌++◌, length, take, drop, get_or, set, Vec, vec_capacity, refl, sym, ap, ◌∙◌, subst, arith, length-append, length-take-le}
use Rattle.std.proofs.lemmas.List.{length-drop}
use Rattle.std.specs.declared.alloc.Global.{Global}
use Rattle.std.specs.List.{AllByRecursion, insert}
use Rattle.model_base.specs.declared.key.Key.{Key}
use Rattle.table_rule.specs.declared.content.Version.{Version}
use Rattle.table_nodes.specs.Chains.{Chain, key_of, chain_versions, insert_older, with_version}
use Rattle.table_tree.specs.Places.{IsOfFamilies}
use Rattle.table_tree.specs.Pages.{Branch, woven, height_of, IsDense, AreBelow, HasRoom, IsPage}
use Rattle.table_tree.specs.Splits.{Splits}
use Rattle.table_tree.specs.declared.entry.Families.{Families}
use Rattle.table_tree.proofs.Order.{all_front, all_back, all_both, all_mapped}
use Rattle.table_tree.proofs.Density.{dense_page}
use Rattle.table_tree.proofs.Levels.{all_taken, all_dropped, all_set, levels_set}
use Rattle.table_tree.proofs.SplitPages.{one_more, levels_split}

-- whether a page has pages below it decides what room it has
room_kept : (bs cs : List Branch) (n m : ℕ) → (0 < length bs → 0 < length cs) → (0 < length cs → 0 < length bs) → n ≤ m → HasRoom bs n → HasRoom cs m
room_kept bs [] n m there back more h = tt
room_kept [] (c ∷ cs) n m there back more h = absurd (let e = back (omega arith) in omega (arith, e))
room_kept (b ∷ bs) (c ∷ cs) n m there back more h = omega (arith, more, h)

module _ (f : Families) (entries : Vec Chain Global) (below : Vec Branch Global) (p : IsPage f entries below) where
  -- it has many chains for its height
  pub dense_of : 16 ^ height_of below.items * (length entries.items + 1) ≤ length (woven below.items entries.items) + 1
  dense_of = dense_page entries.items below.items p.levels

  -- a page below in place of another
  pub kept_below : (at : ℕ) (d new : Branch) (others : Vec Branch Global) → at < length below.items → new.height ≡ (get_or below.items at d).height
      → (get_or below.items at d).own ≤ new.own → IsDense new → others.items ≡ set below.items at new → vec_capacity below ≤ vec_capacity others
      → IsPage f entries others × (height_of others.items ≡ height_of below.items)
  kept_below at d new others less same grown dense is more =
      let levels = levels_set (length entries.items) at below.items d new p.levels less same grown dense in
      let len : length others.items ≡ length below.items = ap length is ∙ set_length below.items at in (
        record {
          few = p.few;
          room = p.room;
          families_are = p.families_are;
          levels = subst (AreBelow (length entries.items)) (sym is) levels.0;
          room_below = room_kept below.items others.items (vec_capacity below) (vec_capacity others) (λ s. omega (arith, len, s)) (λ s. omega (arith, len, s)) more p.room_below;
        },
        ap height_of is ∙ levels.1,
      )
    where
      set_length : (xs : List Branch) (k : ℕ) → length (set xs k new) ≡ length xs
      set_length [] k = refl
      set_length (x ∷ xs) zero = refl
      set_length (x ∷ xs) (suc k) = ap suc (set_length xs k)

  -- an entry in place of another with the same family
  pub kept_entry : (at : ℕ) (c : Chain) (others : Vec Chain Global) → IsOfFamilies f.lowest f.greatest c → others.items ≡ set entries.items at c
      → vec_capacity entries ≤ vec_capacity others → IsPage f others below
  kept_entry at c others of is more =
      let len : length others.items ≡ length entries.items = ap length is ∙ set_length entries.items at in
      record {
        few = let few = p.few in omega (arith, few, len);
        room = let room = p.room in omega (arith, room, more);
        families_are = subst (AllByRecursion (IsOfFamilies f.lowest f.greatest)) (sym is) (all_set (IsOfFamilies f.lowest f.greatest) entries.items at c of p.families_are);
        levels = subst (λ n. AreBelow n below.items) (sym len) p.levels;
        room_below = p.room_below;
      }
    where
      set_length : (xs : List Chain) (k : ℕ) → length (set xs k c) ≡ length xs
      set_length [] k = refl
      set_length (x ∷ xs) zero = refl
      set_length (x ∷ xs) (suc k) = ap suc (set_length xs k)

  -- the same pages in another list with as much room
  pub kept_same : (others : Vec Branch Global) → others.items ≡ below.items → vec_capacity others ≡ vec_capacity below → IsPage f entries others
  kept_same others is same = record {
    few = p.few;
    room = p.room;
    families_are = p.families_are;
    levels = subst (AreBelow (length entries.items)) (sym is) p.levels;
    room_below = subst (HasRoom others.items) (sym same) (subst (λ (l : List Branch). HasRoom l (vec_capacity below)) (sym is) p.room_below);
  }

  module _ (g : Families) (low : g.lowest ≤ f.lowest) (high : f.greatest ≤ g.greatest) where
    -- with more families they are still between them
    wider : (xs : List Chain) → AllByRecursion (IsOfFamilies f.lowest f.greatest) xs → AllByRecursion (IsOfFamilies g.lowest g.greatest) xs
    wider xs a = all_mapped (IsOfFamilies f.lowest f.greatest) (IsOfFamilies g.lowest g.greatest) (λ c q. (let l = q.0 in omega (arith, low, l), let h = q.1 in omega (arith, high, h))) xs a

    placed_all : (at : ℕ) (c : Chain) (xs : List Chain) → IsOfFamilies g.lowest g.greatest c → AllByRecursion (IsOfFamilies f.lowest f.greatest) xs
        → AllByRecursion (IsOfFamilies g.lowest g.greatest) (insert xs at c)
    placed_all at c xs of a =
        let all = wider xs a in
        all_both (IsOfFamilies g.lowest g.greatest) (take at xs) (c ∷ drop at xs) (all_taken (IsOfFamilies g.lowest g.greatest) at xs all)
        (of, all_dropped (IsOfFamilies g.lowest g.greatest) at xs all)

    placed_length : (at : ℕ) (c : Chain) (xs : List Chain) → at ≤ length xs → length (insert xs at c) ≡ length xs + 1
    placed_length at c xs within =
        let front = length-take-le at xs within in
        let back = length-drop at xs in
        let all = length-append (take at xs) (c ∷ drop at xs) in
        omega (arith, front, back, all, within)

    -- a new entry of a leaf
    pub kept_leaf : (at : ℕ) (c : Chain) (others : Vec Chain Global) → below.items ≡ [] → at ≤ length entries.items → length entries.items < 31 → IsOfFamilies g.lowest g.greatest c
        → others.items ≡ insert entries.items at c → vec_capacity entries ≤ vec_capacity others → IsPage g others below
    kept_leaf at c others none within space of is more =
        let len : length others.items ≡ length entries.items + 1 = ap length is ∙ placed_length at c entries.items within in
        record {
          few = omega (arith, len, space);
          room = let room = p.room in omega (arith, room, more);
          families_are = subst (AllByRecursion (IsOfFamilies g.lowest g.greatest)) (sym is) (placed_all at c entries.items of p.families_are);
          levels = subst (AreBelow (length others.items)) (sym none) tt;
          room_below = p.room_below;
        }

    -- a split below
    pub kept_split : (at : ℕ) (news : Vec Chain Global) (others : Vec Branch Global) → (s : Splits entries.items below.items at news.items others.items) → length entries.items < 31
        → IsOfFamilies g.lowest g.greatest s.middle → vec_capacity entries ≤ vec_capacity news → vec_capacity below ≤ vec_capacity others → IsPage g news others
    kept_split at news others s space of more more_below =
        let len = one_more entries.items below.items at news.items others.items s in
        let old : AllByRecursion (IsOfFamilies g.lowest g.greatest) (s.front ++ s.back) = subst (AllByRecursion (IsOfFamilies g.lowest g.greatest)) s.entries_were (wider entries.items p.families_are) in
        let were = ap length s.below_were ∙ length-append s.before (s.whole ∷ s.after) in
        let are = ap length s.below_are ∙ length-append s.before (s.low ∷ s.high ∷ s.after) in
        record {
          few = omega (arith, len, space);
          room = let room = p.room in omega (arith, room, more);
          families_are =
              subst (AllByRecursion (IsOfFamilies g.lowest g.greatest)) (sym s.entries_are)
              (all_both (IsOfFamilies g.lowest g.greatest) s.front (s.middle ∷ s.back) (all_front (IsOfFamilies g.lowest g.greatest) s.front s.back old)
              (of, all_back (IsOfFamilies g.lowest g.greatest) s.front s.back old));
          levels = levels_split entries.items below.items at news.items others.items s p.levels;
          room_below = room_kept below.items others.items (vec_capacity below) (vec_capacity others) (λ x. omega (arith, are)) (λ x. omega (arith, were)) more_below p.room_below;
        }

-- a page after a split below, where the families are those with the new entry's
pub split_page : (f : Families) (entries : Vec Chain Global) (below : Vec Branch Global) (p : IsPage f entries below) (space : length entries.items < 31) (at : ℕ) (news : Vec Chain Global) (others : Vec Branch Global)
    (s : Splits entries.items below.items at news.items others.items) (e : Chain) → e ≡ s.middle → (g : Families) → (g.lowest ≤ f.lowest) × (g.lowest ≤ (key_of e).family)
    → (f.greatest ≤ g.greatest) × ((key_of e).family ≤ g.greatest) → vec_capacity entries ≤ vec_capacity news → vec_capacity below ≤ vec_capacity others → IsPage g news others
split_page f entries below p space at news others s e is g lowest greatest more more_below =
    kept_split f entries below p g lowest.0 greatest.0 at news others s space (subst (IsOfFamilies g.lowest g.greatest) is (lowest.1, greatest.1)) more more_below

-- one more version of a key is of the key's family
pub family_kept : (lowest greatest : ℕ) (c : Chain) (v : Version) → v.key ≡ key_of c → IsOfFamilies lowest greatest c → IsOfFamilies lowest greatest (with_version c v)
family_kept lowest greatest c v same of =
    elim (leb v.sequence c.newest.sequence) as (λ b. IsOfFamilies lowest greatest (cond b (record c { older = insert_older c.older v }) (record { newest = v; older = chain_versions c }))) [
      | true ↦ of
      | false ↦ subst (λ (k : Key). (lowest ≤ k.family) × (k.family ≤ greatest)) (sym same) of
    ]
