-- The two halves of a full page are pages.
use Rattle.std.proofs.Common.{◌≡◌, ℕ, zero, suc, ◌<◌, ◌≤◌, List, [], ◌∷◌, ◌++◌, length, take, drop, get_or, Vec, vec_capacity, refl, sym, ap, ◌∙◌, subst, arith, length-append, length-take-le}
use Rattle.std.proofs.lemmas.List.{length-drop}
use Rattle.std.specs.declared.alloc.Global.{Global}
use Rattle.std.specs.List.{AllByRecursion}
use Rattle.table_nodes.specs.Chains.{Chain, key_of, AreSorted}
use Rattle.table_tree.specs.Places.{IsOfFamilies}
use Rattle.table_tree.specs.Pages.{Branch, woven, height_of, AreBelow, HasRoom, IsPage}
use Rattle.table_tree.specs.Splits.{IsSplit}
use Rattle.table_tree.specs.declared.entry.Families.{Families}
use Rattle.table_tree.proofs.Weaving.{around}
use Rattle.table_tree.proofs.Density.{dense_page}
use Rattle.table_tree.proofs.SearchSteps.{sorted_entries}
use Rattle.table_tree.proofs.SplitPages.{woven_halves, halves_below}
use Rattle.table_tree.proofs.Cutting.{lower_families, upper_families}

-- a part of the pages below has room, where it has pages
pub part_room : (bs cs : List Branch) (m : ℕ) → (0 < length cs → 0 < length bs) → (0 < length bs → 32 ≤ m) → HasRoom cs m
part_room bs [] m there wide = tt
part_room bs (c ∷ cs) m there wide = wide (there (omega arith))

pub taken_room : (bs cs : List Branch) (n m : ℕ) → cs ≡ take 16 bs → m ≡ n → HasRoom bs n → HasRoom cs m
taken_room [] cs n m is same h = subst (λ (l : List Branch). HasRoom l m) (sym is) tt
taken_room (b ∷ bs) cs n m is same h = subst (λ (l : List Branch). HasRoom l m) (sym is) (subst (λ k. 32 ≤ k) (sym same) h)

-- the last of the first elements
pub last_taken : {X : Type 0} → (n : ℕ) (xs front : List X) (x : X) → n < length xs → take (suc n) xs ≡ front ++ x ∷ [] → (get_or xs n x ≡ x) × (front ≡ take n xs)
last_taken n [] front x less e = absurd (omega (arith, less))
last_taken zero (y ∷ xs) [] x less e = (cc, refl)
last_taken zero (y ∷ xs) (z ∷ front) x less e = absurd (let n = ap length e in let m = length-append front (x ∷ []) in omega (arith, n, m))
last_taken (suc n) (y ∷ xs) [] x less e = absurd (let k = ap length e in let m = length-take-le (suc n) xs (omega (arith, less)) in omega (arith, k, m))
last_taken (suc n) (y ∷ xs) (z ∷ front) x less e =
    let first : y ≡ z = cc in
    let others : take (suc n) xs ≡ front ++ x ∷ [] = cc in
    let rest = last_taken n xs front x (omega (arith, less)) others in
    (rest.0, λ i. sym first i ∷ rest.1 i)

module _ (f : Families) (entries : Vec Chain Global) (below : Vec Branch Global) (p : IsPage f entries below) (full : length entries.items ≡ 31)
    (sorted : AreSorted (woven below.items entries.items)) (m : Chain) (middle : get_or entries.items 15 m ≡ m) where
  parts : take 15 entries.items ++ m ∷ drop 16 entries.items ≡ entries.items
  parts = ap (λ (c : Chain). take 15 entries.items ++ c ∷ drop 16 entries.items) (sym middle) ∙ around entries.items 15 m (omega (arith, full))

  parted : AreSorted (take 15 entries.items ++ m ∷ drop 16 entries.items)
  parted = subst AreSorted (sym parts) (sorted_entries below.items entries.items sorted)

  between : AllByRecursion (IsOfFamilies f.lowest f.greatest) (take 15 entries.items ++ m ∷ drop 16 entries.items)
  between = subst (AllByRecursion (IsOfFamilies f.lowest f.greatest)) (sym parts) p.families_are

  levels : AreBelow 31 below.items
  levels = subst (λ n. AreBelow n below.items) full p.levels

  front_count : length (take 15 entries.items) ≡ 15
  front_count = length-take-le 15 entries.items (omega (arith, full))

  back_count : length (drop 16 entries.items) ≡ 15
  back_count = let e = length-drop 16 entries.items in omega (arith, e, full)

  pub lower_page : (g : Families) (low : Vec Chain Global) (pages : Vec Branch Global) → g.lowest ≡ f.lowest → g.greatest ≡ (key_of m).family → low.items ≡ take 15 entries.items
      → pages.items ≡ take 16 below.items → vec_capacity entries ≤ vec_capacity low → HasRoom pages.items (vec_capacity pages) → IsPage g low pages
  lower_page g low pages from to is are wide room =
      let count : length low.items ≡ 15 = ap length is ∙ front_count in
      record {
        few = omega (arith, count);
        room = let r = p.room in omega (arith, r, wide);
        families_are = rw (is, from, to) (lower_families f.lowest f.greatest (take 15 entries.items) m (drop 16 entries.items) parted between);
        levels = rw (count, are) (halves_below below.items levels).lower;
        room_below = room;
      }

  pub upper_page : (g : Families) (high : Vec Chain Global) (pages : Vec Branch Global) → g.lowest ≡ (key_of m).family → g.greatest ≡ f.greatest → high.items ≡ drop 16 entries.items
      → pages.items ≡ drop 16 below.items → 31 ≤ vec_capacity high → HasRoom pages.items (vec_capacity pages) → IsPage g high pages
  upper_page g high pages from to is are wide room =
      let count : length high.items ≡ 15 = ap length is ∙ back_count in
      record {
        few = omega (arith, count);
        room = wide;
        families_are = rw (is, from, to) (upper_families f.lowest f.greatest (take 15 entries.items) m (drop 16 entries.items) parted between);
        levels = rw (count, are) (halves_below below.items levels).upper;
        room_below = room;
      }

  -- what contracts see of the whole page and of its parts
  abbrev pub whole_branch : Branch
  whole_branch = record { chains = woven below.items entries.items; own = length entries.items; height = height_of below.items }

  abbrev pub low_branch : Branch
  low_branch = record { chains = woven (take 16 below.items) (take 15 entries.items); own = length (take 15 entries.items); height = height_of (take 16 below.items) }

  abbrev pub high_branch : Branch
  high_branch = record { chains = woven (drop 16 below.items) (drop 16 entries.items); own = length (drop 16 entries.items); height = height_of (drop 16 below.items) }

  pub is_split : IsSplit whole_branch low_branch m high_branch
  is_split =
      let h = halves_below below.items levels in
      record {
        chains = woven_halves entries.items below.items m full levels middle;
        own = (front_count, back_count);
        height = (h.lower_height, h.upper_height);
        dense = (
          dense_page (take 15 entries.items) (take 16 below.items) (subst (λ n. AreBelow n (take 16 below.items)) (sym front_count) h.lower),
          dense_page (drop 16 entries.items) (drop 16 below.items) (subst (λ n. AreBelow n (drop 16 below.items)) (sym back_count) h.upper),
        );
      }

  -- the same, of lists that are these parts
  pub split_of : (whole : Branch) (low_entries high_entries : List Chain) (low_below high_below : List Branch) → whole_branch ≡ whole
      → low_entries ≡ take 15 entries.items → low_below ≡ take 16 below.items → high_entries ≡ drop 16 entries.items → high_below ≡ drop 16 below.items
      → IsSplit whole (record { chains = woven low_below low_entries; own = length low_entries; height = height_of low_below }) m
      (record { chains = woven high_below high_entries; own = length high_entries; height = height_of high_below })
  split_of whole low_entries high_entries low_below high_below is a b c d =
      let low : low_branch ≡ record { chains = woven low_below low_entries; own = length low_entries; height = height_of low_below } =
      λ i. record { chains = woven (sym b i) (sym a i); own = length (sym a i); height = height_of (sym b i) } in
      let high : high_branch ≡ record { chains = woven high_below high_entries; own = length high_entries; height = height_of high_below } =
      λ i. record { chains = woven (sym d i) (sym c i); own = length (sym c i); height = height_of (sym d i) } in
      subst (λ (w : Branch). IsSplit w (record { chains = woven low_below low_entries; own = length low_entries; height = height_of low_below }) m (record { chains = woven high_below high_entries; own = length high_entries; height = height_of high_below })) is
      (subst (λ (h : Branch). IsSplit whole_branch (record { chains = woven low_below low_entries; own = length low_entries; height = height_of low_below }) m h) high
      (subst (λ (l : Branch). IsSplit whole_branch l m high_branch) low is_split))
