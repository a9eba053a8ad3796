-- Where a version goes in a page: into an entry, into the page below a place, or into a new entry of a leaf.
use Rattle.std.proofs.Common.{◌≡◌, Bool, true, false, cond, ℕ, zero, suc, ◌<◌, List, [], ◌∷◌, ◌++◌, length, take, drop, get_or, set, Some, refl, sym, ap, ◌∙◌, subst, arith, length-take-le}
use Rattle.std.proofs.lemmas.List.{take-append-drop}
use Rattle.std.specs.List.{insert}
use Rattle.model_base.specs.declared.key.Key.{Key}
use Rattle.model_base.specs.Map.{key_order}
use Rattle.table_rule.specs.declared.content.Version.{Version}
use Rattle.table_nodes.specs.Chains.{Chain, key_of, AreSorted, with_version, alone, insert_in_chains}
use Rattle.table_tree.specs.Pages.{Branch, woven, AreBelow}
use Rattle.table_tree.specs.Places.{AreUnder, AreOver, IsEntry, IsPlace}
use Rattle.table_tree.specs.Newest.{chain_at}
use Rattle.table_tree.proofs.Weaving.{around, before, after, woven_page}
use Rattle.table_tree.proofs.Placing.{sorted_page, found_below, went_below, placed, stayed_here, found_entry}

module _ {X : Type 0} where
  -- an element in place of another
  pub set_around : (xs : List X) (i : ℕ) (y : X) → i < length xs → set xs i y ≡ take i xs ++ y ∷ drop (suc i) xs
  set_around [] i y less = absurd (omega (arith, less))
  set_around (x ∷ xs) zero y less = refl
  set_around (x ∷ xs) (suc i) y less = ap (λ (l : List X). x ∷ l) (set_around xs i y (omega (arith, less)))

module _ (key : Key) (entries : List Chain) (below : List Branch) (at : ℕ) (sorted : AreSorted (woven below entries)) where
  module _ (place : IsPlace key entries at) (levels : AreBelow (length entries) below) (d : Branch) (less : at < length below) where
    abbrev page : Branch
    page = get_or below at d

    abbrev bs : List Branch
    bs = take at below

    abbrev cs : List Branch
    cs = drop (suc at) below

    same : length bs ≡ length (take at entries)
    same = length-take-le at below (let l = less in omega (arith, l)) ∙ sym (length-take-le at entries place.within)

    whole : woven (bs ++ page ∷ cs) (take at entries ++ drop at entries) ≡ woven below entries
    whole =
        ap (λ (l : List Branch). woven l (take at entries ++ drop at entries)) (around below at d less)
        ∙ ap (woven below) (take-append-drop at entries)

    parted : AreSorted (woven (bs ++ page ∷ cs) (take at entries ++ drop at entries))
    parted = subst AreSorted (sym whole) sorted

    pub page_sorted : AreSorted page.chains
    page_sorted = sorted_page bs (take at entries) page cs (drop at entries) same parted

    pub found_in_page : chain_at key (woven below entries) ≡ chain_at key page.chains
    found_in_page =
        ap (chain_at key) (sym whole)
        ∙ found_below bs (take at entries) page cs (drop at entries) same parted key place.under place.over

    module _ (new : Branch) where
      again : woven (set below at new) entries ≡ woven (bs ++ new ∷ cs) (take at entries ++ drop at entries)
      again =
          ap (λ (l : List Branch). woven l entries) (set_around below at new less)
          ∙ ap (woven (bs ++ new ∷ cs)) (sym (take-append-drop at entries))

      pub went_in : (v : Version) → v.key ≡ key → new.chains ≡ insert_in_chains page.chains v → woven (set below at new) entries ≡ insert_in_chains (woven below entries) v
      went_in v is p =
          again
          ∙ went_below bs (take at entries) page cs (drop at entries) same parted v new
          (subst (λ k. AreUnder k (take at entries)) (sym is) place.under)
          (subst (λ k. AreOver k (drop at entries)) (sym is) place.over) p
          ∙ ap (λ (l : List Chain). insert_in_chains l v) whole

      -- where nothing went in
      pub stayed_out : new.chains ≡ page.chains → woven (set below at new) entries ≡ woven below entries
      stayed_out p =
          again
          ∙ woven_page bs (take at entries) new cs (drop at entries) same
          ∙ ap (λ (l : List Chain). before bs (take at entries) ++ (l ++ after (drop at entries) cs)) p
          ∙ sym (woven_page bs (take at entries) page cs (drop at entries) same)
          ∙ whole

      -- where it went in, or nothing did
      pub went_or_stayed : (v : Version) (b : Bool) → v.key ≡ key → new.chains ≡ cond b (insert_in_chains page.chains v) page.chains
          → woven (set below at new) entries ≡ cond b (insert_in_chains (woven below entries) v) (woven below entries)
      went_or_stayed v true is p = went_in v is p
      went_or_stayed v false is p = stayed_out p

  module _ (found : IsEntry key entries at) (d : Chain) where
    abbrev own : Chain
    own = get_or entries at d

    one : AreSorted (woven below (take at entries ++ own ∷ drop (suc at) entries))
    one = subst (λ (l : List Chain). AreSorted (woven below l)) (sym (around entries at d found.within)) sorted

    pub found_own : chain_at key (woven below entries) ≡ Some own
    found_own =
        ap (λ (l : List Chain). chain_at key (woven below l)) (sym (around entries at d found.within))
        ∙ found_entry below (take at entries) own (drop (suc at) entries) one key (found.same d)

    pub went_own : (v : Version) → v.key ≡ key → woven below (set entries at (with_version own v)) ≡ insert_in_chains (woven below entries) v
    went_own v is =
        ap (woven below) (set_around entries at (with_version own v) found.within)
        ∙ stayed_here below (take at entries) own (drop (suc at) entries) one v (ap (λ k. key_order k (key_of own)) is ∙ found.same d)
        ∙ ap (λ (l : List Chain). insert_in_chains (woven below l) v) (around entries at d found.within)

-- a new entry of a leaf
pub went_alone : (v : Version) (entries : List Chain) (at : ℕ) → IsPlace v.key entries at → insert entries at (alone v) ≡ insert_in_chains entries v
went_alone v entries at place =
    placed v (take at entries) (drop at entries) place.under place.over
    ∙ ap (λ (l : List Chain). insert_in_chains l v) (take-append-drop at entries)
