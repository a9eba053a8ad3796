-- A page that is split, and its parts in the page above it.
use Rattle.std.proofs.Common.{◌≡◌, ℕ, suc, ◌+◌, ◌<◌, List, [], ◌∷◌, ◌++◌, length, take, drop, get_or, refl, sym, ap, ◌∙◌, subst, arith, length-append, length-take-le}
use Rattle.std.proofs.lemmas.List.{take-append-drop, length-drop}
use Rattle.std.specs.List.{AllByRecursion}
use Rattle.table_nodes.specs.Chains.{Chain}
use Rattle.table_tree.specs.Pages.{Branch, woven, height_of, IsSide, AreBelow}
use Rattle.table_tree.specs.Splits.{Splits}
use Rattle.table_tree.proofs.Order.{all_front, all_back, all_both}
use Rattle.table_tree.proofs.Weaving.{around, woven_split, woven_two}
use Rattle.table_tree.proofs.Density.{height_level}
use Rattle.table_tree.proofs.Levels.{HasLevel, all_taken, all_dropped, levels_of, height_of_level, level_of}

-- the halves of a full page
pub woven_halves : (entries : List Chain) (below : List Branch) (m : Chain) → length entries ≡ 31 → AreBelow 31 below → get_or entries 15 m ≡ m
    → woven below entries ≡ woven (take 16 below) (take 15 entries) ++ m ∷ woven (drop 16 below) (drop 16 entries)
woven_halves entries [] m full a middle = sym (around entries 15 m (omega (arith, full))) ∙ ap (λ (c : Chain). take 15 entries ++ c ∷ drop 16 entries) middle
woven_halves entries (b ∷ below) m full a middle =
    let parts : take 15 entries ++ m ∷ drop 16 entries ≡ entries =
    ap (λ (c : Chain). take 15 entries ++ c ∷ drop 16 entries) (sym middle) ∙ around entries 15 m (omega (arith, full)) in
    let pages : take 16 (b ∷ below) ++ drop 16 (b ∷ below) ≡ b ∷ below = take-append-drop 16 (b ∷ below) in
    let few : length (take 16 (b ∷ below)) ≡ 16 = length-take-le 16 (b ∷ below) (let n = a.0 in omega (arith, n)) in
    let front : length (take 15 entries) ≡ 15 = length-take-le 15 entries (omega (arith, full)) in
    ap (λ (l : List Chain). woven (b ∷ below) l) (sym parts)
    ∙ ap (λ (l : List Branch). woven l (take 15 entries ++ m ∷ drop 16 entries)) (sym pages)
    ∙ woven_split (take 16 (b ∷ below)) (take 15 entries) m (drop 16 (b ∷ below)) (drop 16 entries) (omega (arith, few, front))

-- what is below the halves
pub record AreHalves (below : List Branch) : Type 0 where
  pub lower : AreBelow 15 (take 16 below)
  pub upper : AreBelow 15 (drop 16 below)
  pub lower_height : height_of (take 16 below) ≡ height_of below
  pub upper_height : height_of (drop 16 below) ≡ height_of below

pub halves_below : (below : List Branch) → AreBelow 31 below → AreHalves below
halves_below [] a = record { lower = tt; upper = tt; lower_height = refl; upper_height = refl }
halves_below (b ∷ below) a =
    let all = a.1 in
    let low = all_taken (IsSide b.height) 16 (b ∷ below) all in
    let high = all_dropped (IsSide b.height) 16 (b ∷ below) all in
    let level = height_level b.height b below all in
    let few : length (take 16 (b ∷ below)) ≡ 16 = length-take-le 16 (b ∷ below) (let n = a.0 in omega (arith, n)) in
    let many : length (drop 16 (b ∷ below)) ≡ 16 = (let n = a.0 in let e = length-drop 16 (b ∷ below) in omega (arith, n, e)) in
    record {
      lower = levels_of b.height 15 (take 16 (b ∷ below)) low few;
      upper = levels_of b.height 15 (drop 16 (b ∷ below)) high many;
      lower_height = height_of_level b.height (take 16 (b ∷ below)) low (omega (arith, few)) ∙ sym level;
      upper_height = height_of_level b.height (drop 16 (b ∷ below)) high (omega (arith, many)) ∙ sym level;
    }

module _ (entries : List Chain) (below : List Branch) (at : ℕ) (new_entries : List Chain) (new_below : List Branch) (s : Splits entries below at new_entries new_below) where
  -- the chains stay
  pub same_chains : woven new_below new_entries ≡ woven below entries
  same_chains =
      ap (λ (l : List Branch). woven l new_entries) s.below_are
      ∙ ap (λ (l : List Chain). woven (s.before ++ s.low ∷ s.high ∷ s.after) l) s.entries_are
      ∙ woven_two s.before s.front s.whole s.low s.high s.middle s.after s.back (s.places.1 ∙ sym s.places.0) s.split.chains
      ∙ ap (λ (l : List Chain). woven (s.before ++ s.whole ∷ s.after) l) (sym s.entries_were)
      ∙ ap (λ (l : List Branch). woven l entries) (sym s.below_were)

  pub one_more : length new_entries ≡ length entries + 1
  one_more =
      let old = ap length s.entries_were ∙ length-append s.front s.back in
      let new = ap length s.entries_are ∙ length-append s.front (s.middle ∷ s.back) in
      omega (arith, old, new)

  module _ (a : AreBelow (length entries) below) where
    some : 0 < length below
    some = let e = ap length s.below_were ∙ length-append s.before (s.whole ∷ s.after) in omega (arith, e)

    abbrev level : (h : ℕ) × HasLevel (length entries) below h
    level = level_of (length entries) below a some

    old_all : AllByRecursion (IsSide level.0) (s.before ++ s.whole ∷ s.after)
    old_all = subst (AllByRecursion (IsSide level.0)) s.below_were level.1.all

    new_all : AllByRecursion (IsSide level.0) new_below
    new_all =
        let rest = all_back (IsSide level.0) s.before (s.whole ∷ s.after) old_all in
        let whole = rest.0.height in
        let low : IsSide level.0 s.low = record { height = s.split.height.0 ∙ whole; own = let o = s.split.own.0 in omega (arith, o); dense = s.split.dense.0 } in
        let high : IsSide level.0 s.high = record { height = s.split.height.1 ∙ whole; own = let o = s.split.own.1 in omega (arith, o); dense = s.split.dense.1 } in
        subst (AllByRecursion (IsSide level.0)) (sym s.below_are)
        (all_both (IsSide level.0) s.before (s.low ∷ s.high ∷ s.after) (all_front (IsSide level.0) s.before (s.whole ∷ s.after) old_all) (low, (high, rest.1)))

    new_count : length new_below ≡ suc (length new_entries)
    new_count =
        let old = ap length s.below_were ∙ length-append s.before (s.whole ∷ s.after) in
        let new = ap length s.below_are ∙ length-append s.before (s.low ∷ s.high ∷ s.after) in
        let count = level.1.count in
        let more = one_more in
        omega (arith, old, new, count, more)

    pub levels_split : AreBelow (length new_entries) new_below
    levels_split = levels_of level.0 (length new_entries) new_below new_all new_count

    pub height_split : height_of new_below ≡ height_of below
    height_split = let n = new_count in height_of_level level.0 new_below new_all (omega (arith, n)) ∙ sym level.1.height
