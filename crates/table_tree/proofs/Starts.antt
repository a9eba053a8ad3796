-- Before which entry a key is, and what the rows of a range have at both ends of it.
use Rattle.std.proofs.Common.{◌≡◌, ◌≢◌, ◌⊎◌, ⊎_elim, inl, inr, true, cond, not, ℕ, zero, suc, ◌-◌, ◌<◌, ◌≤◌, List, [], ◌∷◌, ◌++◌, length, take, drop, get_or, None, refl, sym, ap, ◌∙◌, subst, arith, length-take-le}
use Rattle.std.proofs.lemmas.Bool.{and_from, cases_lt}
use Rattle.std.proofs.lemmas.List.{append-nil, take-append-drop, get_or-take, get_or-drop, length-drop}
use Rattle.std.specs.List.{AllByRecursion}
use Rattle.std.specs.Ordering.{is_lt}
use Rattle.std.specs.declared.cmp.Ordering.TheVariants.{Less, Equal, Greater}
use Rattle.model_base.specs.declared.key.Key.{Key}
use Rattle.model_base.specs.Map.{key_order}
use Rattle.table_nodes.specs.Chains.{Chain, key_of, alone, chain_order, AreSorted}
use Rattle.table_tree.specs.Pages.{Branch, woven}
use Rattle.table_tree.specs.Places.{IsEntry, IsPlace}
use Rattle.table_tree.specs.Ranges.{IsStart, page_at}
use Rattle.table_tree.specs.Rows.{is_between, between}
use Rattle.table_rule.proofs.Keys.{key_total}
use Rattle.table_tree.proofs.Order.{all_mapped, sorted_front, sorted_back, flip_less, flip_greater}
use Rattle.table_tree.proofs.Weaving.{around, left_of, after, woven_entry}
use Rattle.table_tree.proofs.Levels.{all_get}
use Rattle.table_tree.proofs.Searching.{under_same, under_front}
use Rattle.table_tree.proofs.Ranging.{not_less, one_further, between-append, none_under, none_from, until, until_page, until_under, woven_after, from_back}

not_greater : (key : Key) (c : Chain) → key_order key (key_of c) ≡ Less → key_order key (key_of c) ≢ Greater
not_greater key c p g = let e = sym p ∙ g in absurd (cc)

equal_not_greater : (key : Key) (c : Chain) → key_order key (key_of c) ≡ Equal → key_order key (key_of c) ≢ Greater
equal_not_greater key c p g = let e = sym p ∙ g in absurd (cc)

-- the entries from the place of an entry on
drop_here : (entries : List Chain) (at : ℕ) (d : Chain) → at < length entries → get_or entries at d ∷ drop (suc at) entries ≡ drop at entries
drop_here [] at d less = absurd (omega (arith, less))
drop_here (e ∷ entries) zero d less = refl
drop_here (e ∷ entries) (suc at) d less = drop_here entries at d (omega (arith, less))

pub start_at_entry : (key : Key) (entries : List Chain) (at : ℕ) → AreSorted entries → IsEntry key entries at → IsStart key entries at
start_at_entry key entries at sorted found =
    let d = alone (record { key = key; value = None; sequence = 0 }) in
    let c = get_or entries at d in
    let parted = subst AreSorted (sym (around entries at d found.within)) sorted in
    let back = sorted_back chain_order (take at entries) (c ∷ drop (suc at) entries) parted in
    let within = found.within in
    record {
      within = omega (arith, within);
      under = under_same key (take at entries) (drop (suc at) entries) c parted (found.same d);
      from =
          subst (AllByRecursion (λ (x : Chain). key_order key (key_of x) ≢ Greater)) (drop_here entries at d found.within)
          (from_back key c (drop (suc at) entries) back (equal_not_greater key c (found.same d)));
    }

pub start_at_place : (key : Key) (entries : List Chain) (at : ℕ) → IsPlace key entries at → IsStart key entries at
start_at_place key entries at place = record {
  within = place.within;
  under = place.under;
  from = all_mapped (λ (x : Chain). key_order key (key_of x) ≡ Less) (λ (x : Chain). key_order key (key_of x) ≢ Greater) (λ x p. not_greater key x p) (drop at entries) place.over;
}

module _ (lo hi : Key) (below : List Branch) (entries : List Chain) (sorted : AreSorted (woven below entries)) where
  -- up to the page at a place, and after it
  parts : (at : ℕ) → at ≤ length entries → woven below entries ≡ left_of below (take at entries) ++ after (drop at entries) (drop (suc at) below)
  parts at within =
      ap (woven below) (sym (take-append-drop at entries)) ∙ woven_after below (take at entries) (drop at entries)
      ∙ ap (λ n. left_of below (take at entries) ++ after (drop at entries) (drop (suc n) below)) (length-take-le at entries within)

  split : (at : ℕ) → at ≤ length entries → AreSorted (left_of below (take at entries) ++ after (drop at entries) (drop (suc at) below))
  split at within = subst AreSorted (parts at within) sorted

  -- the page at a place is sorted
  pub sorted_at : (at : ℕ) → at ≤ length entries → AreSorted (page_at below at)
  sorted_at at within =
      let whole : left_of below (take at entries) ≡ until below (take at entries) ++ page_at below at =
      until_page below (take at entries) ∙ ap (λ n. until below (take at entries) ++ page_at below n) (length-take-le at entries within) in
      let front = sorted_front chain_order (left_of below (take at entries)) (after (drop at entries) (drop (suc at) below)) (split at within) in
      sorted_back chain_order (until below (take at entries)) (page_at below at) (subst AreSorted whole front)

  -- the rows up to the first page are that page's
  pub first_rows : (at : ℕ) → IsStart lo entries at → between lo hi (left_of below (take at entries)) ≡ between lo hi (page_at below at)
  first_rows at start =
      let whole : left_of below (take at entries) ≡ until below (take at entries) ++ page_at below at =
      until_page below (take at entries) ∙ ap (λ n. until below (take at entries) ++ page_at below n) (length-take-le at entries start.within) in
      let front = sorted_front chain_order (left_of below (take at entries)) (after (drop at entries) (drop (suc at) below)) (split at start.within) in
      let under = until_under lo below (take at entries) (page_at below at) (subst AreSorted whole front) start.under in
      ap (between lo hi) whole ∙ between-append lo hi (until below (take at entries)) (page_at below at)
      ∙ ap (λ (l : List Chain). l ++ between lo hi (page_at below at)) (none_under lo hi (until below (take at entries)) under)

  -- there are no rows after the last page
  pub last_rows : (at : ℕ) → IsStart hi entries at → between lo hi (woven below entries) ≡ between lo hi (left_of below (take at entries))
  last_rows at stop =
      let back = sorted_back chain_order (left_of below (take at entries)) (after (drop at entries) (drop (suc at) below)) (split at stop.within) in
      ap (between lo hi) (parts at stop.within) ∙ between-append lo hi (left_of below (take at entries)) (after (drop at entries) (drop (suc at) below))
      ∙ ap (λ (l : List Chain). between lo hi (left_of below (take at entries)) ++ l) (none_from lo hi (after (drop at entries) (drop (suc at) below)) (from (drop at entries) (drop (suc at) below) back stop.from))
      ∙ append-nil (between lo hi (left_of below (take at entries)))
    where
      from : (es : List Chain) (bs : List Branch) → AreSorted (after es bs) → AllByRecursion (λ (x : Chain). key_order hi (key_of x) ≢ Greater) es
          → AllByRecursion (λ (x : Chain). key_order hi (key_of x) ≢ Greater) (after es bs)
      from [] bs s a = tt
      from (e ∷ es) bs s a = from_back hi e (woven bs es) s a.0

  -- where the end is before the beginning, there are no rows
  pub no_rows : (start stop : ℕ) (d : Chain) → IsStart lo entries start → IsStart hi entries stop → stop < start → between lo hi (woven below entries) ≡ between lo hi (page_at below start)
  no_rows start stop d from to less = none ∙ sym (sym (first_rows start from) ∙ front)
    where
      here : stop < length entries
      here = let w = from.within in omega (arith, less, w)

      e : Chain
      e = get_or entries stop d

      parted : AreSorted (left_of below (take stop entries) ++ e ∷ woven (drop (suc (length (take stop entries))) below) (drop (suc stop) entries))
      parted =
          subst AreSorted (ap (woven below) (sym (around entries stop d here)) ∙ woven_entry below (take stop entries) e (drop (suc stop) entries)) sorted

      under : key_order lo (key_of e) ≡ Greater
      under =
          subst (λ (c : Chain). key_order lo (key_of c) ≡ Greater) (get_or-take start entries stop d less)
          (all_get (λ (c : Chain). key_order lo (key_of c) ≡ Greater) (take start entries) stop d (let n = length-take-le start entries from.within in omega (arith, n, less)) from.under)

      none : between lo hi (woven below entries) ≡ []
      none =
          last_rows stop to
          ∙ none_under lo hi (left_of below (take stop entries))
          (under_front lo (left_of below (take stop entries)) (woven (drop (suc (length (take stop entries))) below) (drop (suc stop) entries)) e parted under)

      left_none : (l m : List Chain) → l ++ m ≡ [] → l ≡ []
      left_none [] m p = refl
      left_none (c ∷ l) m p = absurd (cc)

      front : between lo hi (left_of below (take start entries)) ≡ []
      front =
          left_none (between lo hi (left_of below (take start entries))) (between lo hi (after (drop start entries) (drop (suc start) below)))
          (sym (between-append lo hi (left_of below (take start entries)) (after (drop start entries) (drop (suc start) below))) ∙ ap (between lo hi) (sym (parts start from.within)) ∙ none)

at_end : (lo hi : Key) (below : List Branch) (entries : List Chain) → AreSorted (woven below entries) → (stop at : ℕ) → IsStart hi entries stop → stop ≤ at → at ≤ stop
    → between lo hi (left_of below (take at entries)) ≡ between lo hi (woven below entries)
at_end lo hi below entries sorted stop at to past low =
    ap (λ n. between lo hi (left_of below (take n entries))) (omega (arith, past, low)) ∙ sym (last_rows lo hi below entries sorted stop to)

-- up to where the steps from the beginning to the end stop, there are all rows
pub all_rows : (lo hi : Key) (below : List Branch) (entries : List Chain) → AreSorted (woven below entries) → (start stop at : ℕ) → IsStart lo entries start → IsStart hi entries stop
    → stop ≤ at → (at ≡ start) ⊎ (at ≤ stop) → between lo hi (left_of below (take at entries)) ≡ between lo hi (woven below entries)
all_rows lo hi below entries sorted start stop at from to past (inr low) = at_end lo hi below entries sorted stop at to past low
all_rows lo hi below entries sorted start stop at from to past (inl is) = ⊎_elim none (λ low. at_end lo hi below entries sorted stop at to past low) (cases_lt stop at)
  where
    none : stop < at → between lo hi (left_of below (take at entries)) ≡ between lo hi (woven below entries)
    none less =
        ap (λ n. between lo hi (left_of below (take n entries))) is ∙ first_rows lo hi below entries sorted start from
        ∙ sym (no_rows lo hi below entries sorted start stop (alone (record { key = lo; value = None; sequence = 0 })) from to (omega (arith, is, less)))

-- an entry between the two places is of the range
pub entry_within : (lo hi : Key) (entries : List Chain) (start stop at : ℕ) (d : Chain) → IsStart lo entries start → IsStart hi entries stop → start ≤ at → at < stop
    → is_between lo hi (key_of (get_or entries at d)) ≡ true
entry_within lo hi entries start stop at d from to low high =
    let e = get_or entries at d in
    let back : at - start < length (drop start entries) = (let n = length-drop start entries in let w = to.within in omega (arith, n, w, low, high)) in
    let same : get_or (drop start entries) (at - start) d ≡ e = get_or-drop start entries (at - start) d ∙ ap (λ n. get_or entries n d) (omega (arith, low)) in
    let not_under : key_order lo (key_of e) ≢ Greater =
    subst (λ (c : Chain). key_order lo (key_of c) ≢ Greater) same (all_get (λ (c : Chain). key_order lo (key_of c) ≢ Greater) (drop start entries) (at - start) d back from.from) in
    let below_hi : key_order hi (key_of e) ≡ Greater =
    subst (λ (c : Chain). key_order hi (key_of c) ≡ Greater) (get_or-take stop entries at d high)
    (all_get (λ (c : Chain). key_order hi (key_of c) ≡ Greater) (take stop entries) at d (let n = length-take-le stop entries to.within in omega (arith, n, high)) to.under) in
    and_from _ _ (ap not (not_less (key_order (key_of e) lo) (λ less. not_under (flip_less key_order key_total (key_of e) lo less))))
    (ap is_lt (flip_greater key_order key_total hi (key_of e) below_hi))

-- so a step takes its row, and those of the page after it
pub step_rows : (lo hi : Key) (below : List Branch) (entries : List Chain) (start stop at : ℕ) (d : Chain) → IsStart lo entries start → IsStart hi entries stop → start ≤ at → at < stop
    → between lo hi (left_of below (take (suc at) entries)) ≡ between lo hi (left_of below (take at entries)) ++ get_or entries at d ∷ between lo hi (page_at below (suc at))
step_rows lo hi below entries start stop at d from to low high =
    let here : at < length entries = (let w = to.within in omega (arith, w, high)) in
    ap (between lo hi) (one_further below entries at d here)
    ∙ between-append lo hi (left_of below (take at entries)) (get_or entries at d ∷ page_at below (suc at))
    ∙ ap (λ b. between lo hi (left_of below (take at entries)) ++ cond b (get_or entries at d ∷ between lo hi (page_at below (suc at))) (between lo hi (page_at below (suc at))))
    (entry_within lo hi entries start stop at d from to low high)
