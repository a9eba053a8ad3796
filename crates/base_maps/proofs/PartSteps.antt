-- A change of one part is the same change of all parts.
use Rattle.std.proofs.Common.{◌≡◌, ◌==◌, Bool, true, false, ℕ, suc, zero, ◌<◌, ◌+◌, List, [], ◌∷◌, ◌++◌, length, map, take, drop, set, get_or, refl, sym, ap, ◌∙◌, subst, append_assoc, length-append, add-one, arith, Some}
use Rattle.std.specs.List.{insert, remove}
use Rattle.std.specs.BTreeMap.{insert_entry, is_at}
use Rattle.std.specs.Map.{lookup, remove_entry}
use Rattle.std.specs.declared.cmp.Ordering.{Ordering}
use Rattle.std.specs.declared.cmp.Ordering.TheVariants.{Less, Equal, Greater}
use Rattle.std.proofs.lemmas.Cmp.{nat_list_cmp_total}
use Rattle.std.proofs.lemmas.Bool.{true≢false, eqb-true}
use Rattle.std.specs.Ordering.{is_lt, match_ordering}
use Rattle.std.proofs.lemmas.List.{nil_from_length, get_or-set_same, length-set, map-append, map-set, get_or-map, take-map, drop-map, length-map}
use Rattle.model_base.specs.Map.{Rows, byte_order, row_at}
use Rattle.base_keys.specs.Fronts.{front_of}
use Rattle.base_keys.proofs.Fronts.{ordered_by_fronts}
use Rattle.base_maps.specs.Cuts.{AreBelow, AreAbove}
use Rattle.base_maps.specs.Parts.{all_in, AreFilled, AreInOrder, first_key_of, IsFrontOf, IsPartOf, HasSplit}
use Rattle.base_maps.proofs.Within.{put_within, cut_within, find_within, sorted_within, sorted_after, below_first, above_first}

all_append : (a b : List Rows) → all_in (a ++ b) ≡ all_in a ++ all_in b
all_append [] b = refl
all_append (r ∷ a) b = ap (λ (l : Rows). r ++ l) (all_append a b) ∙ sym (append_assoc r (all_in a) (all_in b))

-- parts seen as their pairs, where these are what contracts see of them
pub same_parts : (parts : List Rows) → map (λ r. r) parts ≡ parts
same_parts [] = refl
same_parts (r ∷ parts) = ap (λ (l : List Rows). r ∷ l) (same_parts parts)

-- ---- the pairs before a part, those of it, and those after it

pub around : (parts : List Rows) (at : ℕ) → at < length parts
    → all_in parts ≡ all_in (take at parts) ++ (get_or parts at [] ++ all_in (drop (suc at) parts))
around [] at within = absurd (omega (arith, within))
around (r ∷ parts) zero within = refl
around (r ∷ parts) (suc at) within =
    ap (λ (l : Rows). r ++ l) (around parts at (omega (arith, within)))
    ∙ sym (append_assoc r (all_in (take at parts)) (get_or parts at [] ++ all_in (drop (suc at) parts)))

around_set : (parts : List Rows) (at : ℕ) (new : Rows) → at < length parts
    → all_in (set parts at new) ≡ all_in (take at parts) ++ (new ++ all_in (drop (suc at) parts))
around_set [] at new within = absurd (omega (arith, within))
around_set (r ∷ parts) zero new within = refl
around_set (r ∷ parts) (suc at) new within =
    ap (λ (l : Rows). r ++ l) (around_set parts at new (omega (arith, within)))
    ∙ sym (append_assoc r (all_in (take at parts)) (new ++ all_in (drop (suc at) parts)))

-- each part of parts in order is in order
pub order_at : (parts : List Rows) (at : ℕ) → at < length parts → AreInOrder (all_in parts) → AreInOrder (get_or parts at [])
order_at parts at within order =
    sorted_within byte_order nat_list_cmp_total (all_in (take at parts)) (get_or parts at []) (all_in (drop (suc at) parts))
    (subst AreInOrder (around parts at within) order)

pub filled_at : (parts : List Rows) (at : ℕ) → at < length parts → AreFilled parts → 0 < length (get_or parts at [])
filled_at [] at within all = absurd (omega (arith, within))
filled_at (r ∷ parts) zero within all = all.0
filled_at (r ∷ parts) (suc at) within all = filled_at parts at (omega (arith, within)) all.1

pub filled_set : (parts : List Rows) (at : ℕ) (new : Rows) → 0 < length new → AreFilled parts → AreFilled (set parts at new)
filled_set [] at new some all = tt
filled_set (r ∷ parts) zero new some all = (some, all.1)
filled_set (r ∷ parts) (suc at) new some all = (all.0, filled_set parts at new some all.1)

-- ---- a look-up, a change and a removal of a key in the part that it belongs to

module _ (key : List ℕ) (parts : List Rows) (at : ℕ) (place : IsPartOf key parts at) where
  over : AreAbove key (all_in (drop (suc at) parts))
  over = subst (λ (n : ℕ). AreAbove key (all_in (drop n parts))) (add-one at) place.above

  pub found_at : row_at (get_or parts at []) key ≡ row_at (all_in parts) key
  found_at =
      sym (find_within byte_order nat_list_cmp_total (all_in (take at parts)) (get_or parts at []) (all_in (drop (suc at) parts)) key place.below over)
      ∙ ap (lookup (is_at (byte_order key))) (sym (around parts at place.within))

  pub put_at : (new : Rows) (v : List ℕ) → new ≡ insert_entry byte_order (get_or parts at []) key v
      → all_in (set parts at new) ≡ insert_entry byte_order (all_in parts) key v
  put_at new v is =
      around_set parts at new place.within ∙ ap (λ (l : Rows). all_in (take at parts) ++ (l ++ all_in (drop (suc at) parts))) is
      ∙ sym (put_within byte_order nat_list_cmp_total (all_in (take at parts)) (get_or parts at []) (all_in (drop (suc at) parts)) key v place.below over)
      ∙ ap (λ (l : Rows). insert_entry byte_order l key v) (sym (around parts at place.within))

  pub cut_at : (new : Rows) → new ≡ remove_entry (is_at (byte_order key)) (get_or parts at [])
      → all_in (set parts at new) ≡ remove_entry (is_at (byte_order key)) (all_in parts)
  cut_at new is =
      around_set parts at new place.within ∙ ap (λ (l : Rows). all_in (take at parts) ++ (l ++ all_in (drop (suc at) parts))) is
      ∙ sym (cut_within byte_order nat_list_cmp_total (all_in (take at parts)) (get_or parts at []) (all_in (drop (suc at) parts)) key place.below over)
      ∙ ap (remove_entry (is_at (byte_order key))) (sym (around parts at place.within))

-- a part that is as it was
pub same_at : (parts : List Rows) (at : ℕ) (new : Rows) → at < length parts → new ≡ get_or parts at [] → all_in (set parts at new) ≡ all_in parts
same_at parts at new within is =
    around_set parts at new within ∙ ap (λ (l : Rows). all_in (take at parts) ++ (l ++ all_in (drop (suc at) parts))) is
    ∙ sym (around parts at within)

-- how many pairs there are then
pub counted_at : (parts : List Rows) (at : ℕ) (new : Rows) → at < length parts
    → length (all_in (set parts at new)) + length (get_or parts at []) ≡ length (all_in parts) + length new
counted_at [] at new within = absurd (omega (arith, within))
counted_at (r ∷ parts) zero new within = omega (arith, length-append r (all_in parts), length-append new (all_in parts))
counted_at (r ∷ parts) (suc at) new within =
    let rest = counted_at parts at new (omega (arith, within)) in
    omega (arith, rest, length-append r (all_in parts), length-append r (all_in (set parts at new)))

pub some_put : (rows : Rows) (k v : List ℕ) → 0 < length (insert_entry byte_order rows k v)
some_put [] k v = omega arith
some_put (p ∷ rows) k v = elim (byte_order k p.0) as (λ (r : Ordering). 0 < length (match_ordering r ((k, v) ∷ p ∷ rows) ((p.0, v) ∷ rows) (p ∷ insert_entry byte_order rows k v))) [
  | Less ↦ omega arith
  | Equal ↦ omega arith
  | Greater ↦ omega arith
]

-- ---- a part without pairs goes

pub gone_at : (parts : List Rows) (at : ℕ) → at < length parts → get_or parts at [] ≡ [] → all_in (remove parts at) ≡ all_in parts
gone_at [] at within none = absurd (omega (arith, within))
gone_at (r ∷ parts) zero within none = ap (λ (l : Rows). l ++ all_in parts) (sym none)
gone_at (r ∷ parts) (suc at) within none = ap (λ (l : Rows). r ++ l) (gone_at parts at (omega (arith, within)) none)

pub filled_gone : (parts : List Rows) (at : ℕ) (new : Rows) → AreFilled parts → AreFilled (remove (set parts at new) at)
filled_gone [] at new all = elim at as (λ (n : ℕ). AreFilled (remove (set [] n new) n)) [ zero ↦ tt | suc n ↦ tt ]
filled_gone (r ∷ parts) zero new all = all.1
filled_gone (r ∷ parts) (suc at) new all = (all.0, filled_gone parts at new all.1)

-- ---- a part that was split

pub split_at : (parts : List Rows) (at : ℕ) (low high : Rows) → at < length parts → get_or parts at [] ≡ low ++ high
    → all_in (insert (set parts at low) (suc at) high) ≡ all_in parts
split_at [] at low high within is = absurd (omega (arith, within))
split_at (r ∷ parts) zero low high within is =
    sym (append_assoc low high (all_in parts)) ∙ ap (λ (l : Rows). l ++ all_in parts) (sym is)
split_at (r ∷ parts) (suc at) low high within is = ap (λ (l : Rows). r ++ l) (split_at parts at low high (omega (arith, within)) is)

pub filled_split : (parts : List Rows) (at : ℕ) (low high : Rows) → at < length parts → AreFilled parts → 0 < length low → 0 < length high
    → AreFilled (insert (set parts at low) (suc at) high)
filled_split [] at low high within all some others = absurd (omega (arith, within))
filled_split (r ∷ parts) zero low high within all some others = (some, (others, all.1))
filled_split (r ∷ parts) (suc at) low high within all some others = (all.0, filled_split parts at low high (omega (arith, within)) all.1 some others)

-- ---- parts of a list of parts

pub filled_front : (n : ℕ) (parts : List Rows) → AreFilled parts → AreFilled (take n parts)
filled_front zero parts all = tt
filled_front (suc n) [] all = tt
filled_front (suc n) (r ∷ parts) all = (all.0, filled_front n parts all.1)

pub filled_back : (n : ℕ) (parts : List Rows) → AreFilled parts → AreFilled (drop n parts)
filled_back zero parts all = all
filled_back (suc n) [] all = tt
filled_back (suc n) (r ∷ parts) all = filled_back n parts all.1

pub parted : (n : ℕ) (parts : List Rows) → all_in parts ≡ all_in (take n parts) ++ all_in (drop n parts)
parted zero parts = refl
parted (suc n) [] = refl
parted (suc n) (r ∷ parts) = ap (λ (l : Rows). r ++ l) (parted n parts) ∙ sym (append_assoc r (all_in (take n parts)) (all_in (drop n parts)))

-- parts that aren't none have some pairs
pub some_pairs : (parts : List Rows) → AreFilled parts → 0 < length parts → 0 < length (all_in parts)
some_pairs [] all some = absurd (omega (arith, some))
some_pairs (r ∷ parts) all some = omega (arith, all.0, length-append r (all_in parts))

pub no_pairs : (parts : List Rows) → length parts ≡ 0 → all_in parts ≡ []
no_pairs [] none = refl
no_pairs (r ∷ parts) none = absurd (omega (arith, none))

-- the first key of parts is that of the first part
pub first_of_parts : (parts : List Rows) → AreFilled parts → first_key_of (get_or parts 0 []) ≡ first_key_of (all_in parts)
first_of_parts [] all = refl
first_of_parts ([] ∷ parts) all = absurd (omega (arith, all.0))
first_of_parts ((p ∷ r) ∷ parts) all = refl

pub front_of_parts : (front : List ℕ) (parts : List Rows) → AreFilled parts → IsFrontOf front (get_or parts 0 []) → IsFrontOf front (all_in parts)
front_of_parts front [] all is = tt
front_of_parts front ([] ∷ parts) all is = absurd (omega (arith, all.0))
front_of_parts front ((p ∷ r) ∷ parts) all is = is

-- ---- a step of the search for the part that a key belongs to

-- pairs with a first key
record Begins (rows : Rows) (k : List ℕ) : Type 0 where
  value : List ℕ
  later : Rows
  are : rows ≡ (k, value) ∷ later

begins : (rows : Rows) (k : List ℕ) → first_key_of rows ≡ Some k → Begins rows k
begins [] k e = absurd (cc)
begins (p ∷ rows) k e =
    let same : p.0 ≡ k = cc in
    record { value = p.1; later = rows; are = ap (λ (x : List ℕ). (x, p.1) ∷ rows) same }

from_place : (parts : List Rows) (at : ℕ) → at < length parts → all_in (drop at parts) ≡ get_or parts at [] ++ all_in (drop (suc at) parts)
from_place [] at within = absurd (omega (arith, within))
from_place (r ∷ parts) zero within = refl
from_place (r ∷ parts) (suc at) within = from_place parts at (omega (arith, within))

module _ (key : List ℕ) (parts : List Rows) (at : ℕ) (k : List ℕ) (within : at < length parts) (order : AreInOrder (all_in parts))
    (first : first_key_of (get_or parts at []) ≡ Some k) where
  start : Begins (get_or parts at []) k
  start = begins (get_or parts at []) k first

  rest : Rows
  rest = start.later ++ all_in (drop (suc at) parts)

  opened : all_in (drop at parts) ≡ (k, start.value) ∷ rest
  unfolding rest
  opened = from_place parts at within ∙ ap (λ (l : Rows). l ++ all_in (drop (suc at) parts)) start.are

  split_there : AreInOrder (all_in (take at parts) ++ (k, start.value) ∷ rest)
  split_there = subst AreInOrder (parted at parts ∙ ap (λ (l : Rows). all_in (take at parts) ++ l) opened) order

  -- a part whose first key is above the key, and those after it
  pub above_from : byte_order key k ≡ Less → AreAbove key (all_in (drop at parts))
  above_from less =
      subst (AreAbove key) (sym opened)
      (above_first byte_order nat_list_cmp_total (k, start.value) rest key
      (sorted_after byte_order nat_list_cmp_total (all_in (take at parts)) ((k, start.value) ∷ rest) split_there) less)

  -- what comes before a part whose first key isn't above the key
  pub below_upto : (byte_order key k ≡ Less → ⊥) → AreBelow key (all_in (take at parts))
  below_upto up = below_first byte_order nat_list_cmp_total (all_in (take at parts)) (k, start.value) rest key split_there up

-- how a key compares with a part's first key, if the fronts differ
pub by_fronts : (key k front here : List ℕ) (rows : Rows) (r : Ordering) → front ≡ front_of 16 key → IsFrontOf here rows → first_key_of rows ≡ Some k
    → r ≡ byte_order front here → (r ≡ Equal → ⊥) → r ≡ byte_order key k
by_fronts key k front here [] r own is first order differ = absurd (cc)
by_fronts key k front here (p ∷ rows) r own is first order differ =
    let same : p.0 ≡ k = cc in
    ordered_by_fronts 16 key p.0 front here r (sym own) is order differ ∙ ap (λ (x : List ℕ). byte_order key x) same

pub less_differs : (r : Ordering) → r ≡ Less → r ≡ Equal → ⊥
less_differs r less same = absurd (cc)

pub greater_differs : (r : Ordering) → r ≡ Greater → r ≡ Equal → ⊥
greater_differs r greater same = absurd (cc)

-- ---- parts of any kind, seen as their pairs

module _ {P : Type 0} (f : P → Rows) where
  pub seen_at : (parts : List P) (at : ℕ) (p : P) → at < length parts → p ≡ get_or parts at p → f p ≡ get_or (map f parts) at []
  seen_at parts at p within is = ap f is ∙ sym (get_or-map f parts at p [] within)

  seen_insert : (parts : List P) (at : ℕ) (p : P) → map f (insert parts at p) ≡ insert (map f parts) at (f p)
  seen_insert parts at p = map-append f (take at parts) (p ∷ drop at parts) ∙ ap (λ (l : List Rows). l ++ f p ∷ map f (drop at parts)) (sym (take-map f at parts))
      ∙ ap (λ (l : List Rows). take at (map f parts) ++ f p ∷ l) (sym (drop-map f at parts))

  pub seen_remove : (parts : List P) (at : ℕ) → map f (remove parts at) ≡ remove (map f parts) at
  seen_remove parts at = map-append f (take at parts) (drop (suc at) parts) ∙ ap (λ (l : List Rows). l ++ map f (drop (suc at) parts)) (sym (take-map f at parts))
      ∙ ap (λ (l : List Rows). take at (map f parts) ++ l) (sym (drop-map f (suc at) parts))

  pub seen_within : (parts : List P) (at : ℕ) → at < length parts → at < length (map f parts)
  seen_within parts at within = omega (arith, within, length-map parts f)

  -- a part that was split
  module _ (parts new : List P) (at : ℕ) (old low high : P) (within : at < length parts) (was : old ≡ get_or parts at old)
      (are : new ≡ insert (set parts at low) (at + 1) high) (split : HasSplit (f old) (f low) (Some (f high))) (filled : AreFilled (map f parts)) where
    seen_new : map f new ≡ insert (set (map f parts) at (f low)) (suc at) (f high)
    seen_new =
        ap (map f) are ∙ seen_insert (set parts at low) (at + 1) high
        ∙ ap (λ (l : List Rows). insert l (at + 1) (f high)) (map-set f parts at low)
        ∙ ap (λ (n : ℕ). insert (set (map f parts) at (f low)) n (f high)) (add-one at)

    pub split_same : all_in (map f new) ≡ all_in (map f parts)
    split_same =
        ap all_in seen_new
        ∙ split_at (map f parts) at (f low) (f high) (seen_within parts at within) (sym (seen_at parts at old within was) ∙ split.0)

    pub split_filled : AreFilled (map f new)
    split_filled =
        subst AreFilled (sym seen_new) (filled_split (map f parts) at (f low) (f high) (seen_within parts at within) filled split.1.0 split.1.1)

  -- a part that has changed, or is as it was
  module _ (parts : List P) (at : ℕ) (old new : P) (within : at < length parts) (was : old ≡ get_or parts at old) where
    pub kept_same : f new ≡ f old → all_in (map f (set parts at new)) ≡ all_in (map f parts)
    kept_same same =
        ap all_in (map-set f parts at new)
        ∙ same_at (map f parts) at (f new) (seen_within parts at within) (same ∙ seen_at parts at old within was)

    pub changed_filled : 0 < length (f new) → AreFilled (map f parts) → AreFilled (map f (set parts at new))
    changed_filled some filled = subst AreFilled (sym (map-set f parts at new)) (filled_set (map f parts) at (f new) some filled)

    pub kept_filled : f new ≡ f old → AreFilled (map f parts) → AreFilled (map f (set parts at new))
    kept_filled same filled =
        changed_filled (subst (λ (l : Rows). 0 < length l) (sym (same ∙ seen_at parts at old within was)) (filled_at (map f parts) at (seen_within parts at within) filled)) filled

    pub changed_put : (key v : List ℕ) → IsPartOf key (map f parts) at → f new ≡ insert_entry byte_order (f old) key v
        → all_in (map f (set parts at new)) ≡ insert_entry byte_order (all_in (map f parts)) key v
    changed_put key v place is =
        ap all_in (map-set f parts at new)
        ∙ put_at key (map f parts) at place (f new) v (is ∙ ap (λ (l : Rows). insert_entry byte_order l key v) (seen_at parts at old within was))

    pub changed_cut : (key : List ℕ) → IsPartOf key (map f parts) at → f new ≡ remove_entry (is_at (byte_order key)) (f old)
        → all_in (map f (set parts at new)) ≡ remove_entry (is_at (byte_order key)) (all_in (map f parts))
    changed_cut key place is =
        ap all_in (map-set f parts at new)
        ∙ cut_at key (map f parts) at place (f new) (is ∙ ap (remove_entry (is_at (byte_order key))) (seen_at parts at old within was))

    pub changed_count : length (all_in (map f (set parts at new))) + length (f old) ≡ length (all_in (map f parts)) + length (f new)
    changed_count =
        let count = counted_at (map f parts) at (f new) (seen_within parts at within) in
        let seen = ap (λ (l : Rows). length l) (seen_at parts at old within was) in
        let mapped = ap (λ (l : List Rows). length (all_in l)) (map-set f parts at new) in
        omega (arith, count, seen, mapped)

-- ---- tests

less_from : (r : Ordering) → is_lt r ≡ true → r ≡ Less
less_from Less e = refl
less_from Equal e = absurd (cc)
less_from Greater e = absurd (cc)

not_less : (r : Ordering) → is_lt r ≡ false → r ≡ Less → ⊥
not_less r e less = absurd (true≢false (sym (ap is_lt less) ∙ e))

pub none_left : (rows : Rows) (b : Bool) → b ≡ (length rows == 0) → b ≡ true → rows ≡ []
none_left rows b is e = nil_from_length rows (eqb-true (length rows) 0 (sym is ∙ e))

pub some_left : (rows : Rows) (b : Bool) → b ≡ (length rows == 0) → b ≡ false → 0 < length rows
some_left [] b is e = absurd (true≢false (sym is ∙ e))
some_left (p ∷ rows) b is e = omega arith

-- some pairs have a first key
record HasFirst (rows : Rows) : Type 0 where
  key : List ℕ
  is : first_key_of rows ≡ Some key

has_first : (rows : Rows) → 0 < length rows → HasFirst rows
has_first [] some = absurd (omega (arith, some))
has_first (p ∷ rows) some = record { key = p.0; is = refl }

-- ---- a part of parts of any kind

module _ {P : Type 0} (f : P → Rows) (parts : List P) (at : ℕ) (p : P) (within : at < length parts) (was : p ≡ get_or parts at p) where
  pub some_seen : AreFilled (map f parts) → 0 < length (f p)
  some_seen filled = subst (λ (l : Rows). 0 < length l) (sym (seen_at f parts at p within was)) (filled_at (map f parts) at (seen_within f parts at within) filled)

  pub order_seen : AreInOrder (all_in (map f parts)) → AreInOrder (f p)
  order_seen order = subst AreInOrder (sym (seen_at f parts at p within was)) (order_at (map f parts) at (seen_within f parts at within) order)

  pub found_seen : (key : List ℕ) → IsPartOf key (map f parts) at → row_at (f p) key ≡ row_at (all_in (map f parts)) key
  found_seen key place = ap (λ (l : Rows). row_at l key) (seen_at f parts at p within was) ∙ found_at key (map f parts) at place

  module _ (key : List ℕ) (r : Bool) (said : (k : List ℕ) → first_key_of (f p) ≡ Some k → r ≡ is_lt (byte_order key k))
      (filled : AreFilled (map f parts)) (order : AreInOrder (all_in (map f parts))) where
    first_seen : HasFirst (f p)
    first_seen = has_first (f p) (some_seen filled)

    first_there : first_key_of (get_or (map f parts) at []) ≡ Some first_seen.key
    first_there = ap first_key_of (sym (seen_at f parts at p within was)) ∙ first_seen.is

    pub search_above : r ≡ true → AreAbove key (all_in (drop at (map f parts)))
    search_above holds =
        above_from key (map f parts) at first_seen.key (seen_within f parts at within) order first_there
        (less_from (byte_order key first_seen.key) (sym (said first_seen.key first_seen.is) ∙ holds))

    pub search_below : r ≡ false → AreBelow key (all_in (take at (map f parts)))
    search_below fails =
        below_upto key (map f parts) at first_seen.key (seen_within f parts at within) order first_there
        (not_less (byte_order key first_seen.key) (sym (said first_seen.key first_seen.is) ∙ fails))

-- a part that has no pairs any more goes
module _ {P : Type 0} (f : P → Rows) (parts : List P) (at : ℕ) (new : P) (within : at < length parts) where
  there : at < length (set parts at new)
  there = omega (arith, within, length-set parts at new)

  pub emptied_same : f new ≡ [] → all_in (map f (remove (set parts at new) at)) ≡ all_in (map f (set parts at new))
  emptied_same none =
      ap all_in (seen_remove f (set parts at new) at)
      ∙ gone_at (map f (set parts at new)) at (seen_within f (set parts at new) at there)
      (sym (seen_at f (set parts at new) at new there (sym (get_or-set_same parts at new new within))) ∙ none)

  pub emptied_filled : AreFilled (map f parts) → AreFilled (map f (remove (set parts at new) at))
  emptied_filled filled =
      subst AreFilled (sym (seen_remove f (set parts at new) at ∙ ap (λ (l : List Rows). remove l at) (map-set f parts at new)))
      (filled_gone (map f parts) at (f new) filled)
