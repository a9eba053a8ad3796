-- The lists of a page after a page below was split, and the page that is put above a root that was split.
use Rattle.std.proofs.Common.{◌≡◌, ℕ, zero, suc, ◌<◌, ◌≤◌, List, [], ◌∷◌, ◌++◌, length, take, drop, get_or, set, Vec, vec_capacity, refl, sym, ap, ◌∙◌, subst, arith, length-take-le}
use Rattle.std.proofs.lemmas.List.{take-append-drop}
use Rattle.std.specs.declared.alloc.Global.{Global}
use Rattle.std.specs.List.{AllByRecursion, insert}
use Rattle.table_nodes.specs.Chains.{Chain}
use Rattle.table_tree.specs.Places.{IsOfFamilies}
use Rattle.table_tree.specs.Pages.{Branch, woven, IsSide, AreBelow, HasRoom, IsPage}
use Rattle.table_tree.specs.Splits.{IsSplit, Splits}
use Rattle.table_tree.specs.declared.entry.Families.{Families}
use Rattle.table_tree.proofs.Weaving.{around}

module _ {X : Type 0} where
  -- an element in place of another, and one more after it
  pub two_around : (xs : List X) (i : ℕ) (y z : X) → i < length xs → insert (set xs i y) (suc i) z ≡ take i xs ++ y ∷ z ∷ drop (suc i) xs
  two_around [] i y z less = absurd (omega (arith, less))
  two_around (x ∷ xs) zero y z less = refl
  two_around (x ∷ xs) (suc i) y z less = ap (λ (l : List X). x ∷ l) (two_around xs i y z (omega (arith, less)))

pub splits_of : (entries : List Chain) (below : List Branch) (at : ℕ) (d low high : Branch) (m : Chain) → at < length below → at ≤ length entries
    → IsSplit (get_or below at d) low m high → Splits entries below at (insert entries at m) (insert (set below at low) (suc at) high)
splits_of entries below at d low high m less within split = record {
  front = take at entries;
  back = drop at entries;
  before = take at below;
  after = drop (suc at) below;
  whole = get_or below at d;
  low = low;
  middle = m;
  high = high;
  split = split;
  places = (length-take-le at entries within, length-take-le at below (omega (arith, less)));
  entries_were = sym (take-append-drop at entries);
  below_were = sym (around below at d less);
  entries_are = refl;
  below_are = two_around below at low high less;
}

-- the page above the two halves of a root
pub raised : (whole low high : Branch) (m : Chain) (f : Families) (entries : Vec Chain Global) (below : Vec Branch Global) → IsSplit whole low m high
    → entries.items ≡ m ∷ [] → below.items ≡ low ∷ high ∷ [] → 31 ≤ vec_capacity entries → 32 ≤ vec_capacity below → IsOfFamilies f.lowest f.greatest m
    → IsPage f entries below × (woven below.items entries.items ≡ whole.chains)
raised whole low high m f entries below split one two room room_below of =
    let side : IsSide low.height low = record { height = refl; own = let o = split.own.0 in omega (arith, o); dense = split.dense.0 } in
    let other : IsSide low.height high = record { height = split.height.1 ∙ sym split.height.0; own = let o = split.own.1 in omega (arith, o); dense = split.dense.1 } in (
      record {
        few = let e = ap length one in omega (arith, e);
        room = room;
        families_are = subst (AllByRecursion (IsOfFamilies f.lowest f.greatest)) (sym one) (of, tt);
        levels =
            subst (λ (l : List Branch). AreBelow (length entries.items) l) (sym two)
            (subst (λ (l : List Chain). AreBelow (length l) (low ∷ high ∷ [])) (sym one) (refl, (side, (other, tt))));
        room_below = subst (λ (l : List Branch). HasRoom l (vec_capacity below)) (sym two) room_below;
      },
      ap (λ (l : List Branch). woven l entries.items) two ∙ ap (woven (low ∷ high ∷ [])) one ∙ sym split.chains,
    )
