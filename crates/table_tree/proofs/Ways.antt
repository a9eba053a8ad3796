-- The way after a page below was split, and where none was.
use Rattle.std.proofs.Common.{◌≡◌, ◌⊎◌, ⊎_elim, ℕ, suc, ◌+◌, ◌-◌, ◌<◌, ◌≤◌, List, ◌∷◌, length, take, drop, get_or, inl, inr, Result, Ok, Err, MatchResult, sym, ap, ◌∙◌, subst, arith, length-append, length-take-le}
use Rattle.std.proofs.lemmas.Bool.{cases_lt}
use Rattle.std.proofs.lemmas.List.{get_or_append_left, get_or-append-add, get_or-drop, get_or-take, length-drop}
use Rattle.std.specs.declared.cmp.Ordering.TheVariants.{Less, Greater}
use Rattle.model_base.specs.declared.key.Key.{Key}
use Rattle.model_base.specs.Map.{key_order}
use Rattle.table_nodes.specs.Chains.{Chain, key_of}
use Rattle.table_tree.specs.Pages.{Branch}
use Rattle.table_tree.specs.Places.{IsEntry, IsPlace}
use Rattle.table_tree.specs.Splits.{Splits}
use Rattle.table_tree.specs.Ways.{IsOpen, IsWay}
use Rattle.table_tree.proofs.Levels.{all_get}

-- nothing was split, since the page at the place has room, or there is none
pub open_as_is : (key : Key) (entries : List Chain) (below : List Branch) (at : ℕ) → IsPlace key entries at → length entries < 31
    → ((d : Branch) → at < length below → (get_or below at d).own < 31) → IsOpen key entries below at
open_as_is key entries below at place few free = record { place = place; open_below = free; open_leaf = λ _. few }

-- no entry before the place is above the key, and none from it on is below it
entry_under : (key : Key) (entries : List Chain) (at i : ℕ) (d : Chain) → IsPlace key entries at → i < at → key_order key (key_of (get_or entries i d)) ≡ Greater
entry_under key entries at i d place less =
    let within : i < length (take at entries) = (let n = length-take-le at entries place.within in omega (arith, n, less)) in
    subst (λ (c : Chain). key_order key (key_of c) ≡ Greater) (get_or-take at entries i d less)
    (all_get (λ (c : Chain). key_order key (key_of c) ≡ Greater) (take at entries) i d within place.under)

entry_over : (key : Key) (entries : List Chain) (at j : ℕ) (d : Chain) → IsPlace key entries at → at ≤ j → j < length entries → key_order key (key_of (get_or entries j d)) ≡ Less
entry_over key entries at j d place low less =
    let within : j - at < length (drop at entries) = (let n = length-drop at entries in omega (arith, n, less, low)) in
    let same : get_or (drop at entries) (j - at) d ≡ get_or entries j d = get_or-drop at entries (j - at) d ∙ ap (λ n. get_or entries n d) (omega (arith, low)) in
    subst (λ (c : Chain). key_order key (key_of c) ≡ Less) same
    (all_get (λ (c : Chain). key_order key (key_of c) ≡ Less) (drop at entries) (j - at) d within place.over)

apart : (key : Key) (c d : Chain) → c ≡ d → key_order key (key_of c) ≡ Less → key_order key (key_of d) ≡ Greater → ⊥
apart key c d same less greater = let e = sym less ∙ ap (λ (x : Chain). key_order key (key_of x)) same ∙ greater in absurd (cc)

module _ (key : Key) (entries : List Chain) (below : List Branch) (at : ℕ) (news : List Chain) (others : List Branch) (s : Splits entries below at news others)
    (place : IsPlace key entries at) (again : ℕ) (there : IsPlace key news again) where
  old_count : length entries ≡ at + length s.back
  old_count = let e = ap length s.entries_were ∙ length-append s.front s.back in let f = s.places.0 in omega (arith, e, f)

  new_count : length news ≡ at + suc (length s.back)
  new_count = let e = ap length s.entries_are ∙ length-append s.front (s.middle ∷ s.back) in let f = s.places.0 in omega (arith, e, f)

  -- the place is on one of the two sides of the middle entry
  not_before : again < at → ⊥
  not_before less =
      let few : again < length s.front = (let f = s.places.0 in omega (arith, f, less)) in
      let same : get_or news again s.middle ≡ get_or entries again s.middle =
      ap (λ (l : List Chain). get_or l again s.middle) s.entries_are ∙ get_or_append_left s.front (s.middle ∷ s.back) s.middle again few
      ∙ sym (get_or_append_left s.front s.back s.middle again few) ∙ sym (ap (λ (l : List Chain). get_or l again s.middle) s.entries_were) in
      apart key (get_or news again s.middle) (get_or entries again s.middle) same
      (entry_over key news again again s.middle there (omega arith) (let n = new_count in omega (arith, n, less))) (entry_under key entries at again s.middle place less)

  not_after : suc at < again → ⊥
  not_after more =
      let some : 0 < length s.back = (let n = new_count in let w = there.within in omega (arith, n, w, more)) in
      let front = s.places.0 in
      let in_news : get_or news (suc at) s.middle ≡ get_or s.back 0 s.middle =
      ap (λ n. get_or news n s.middle) (omega (arith, front)) ∙ ap (λ (l : List Chain). get_or l (length s.front + 1) s.middle) s.entries_are ∙ get_or-append-add s.front (s.middle ∷ s.back) 1 s.middle in
      let in_entries : get_or entries at s.middle ≡ get_or s.back 0 s.middle =
      ap (λ n. get_or entries n s.middle) (omega (arith, front)) ∙ ap (λ (l : List Chain). get_or l (length s.front + 0) s.middle) s.entries_were ∙ get_or-append-add s.front s.back 0 s.middle in
      apart key (get_or entries at s.middle) (get_or news (suc at) s.middle) (in_entries ∙ sym in_news)
      (entry_over key entries at at s.middle place (omega arith) (let n = old_count in omega (arith, n, some))) (entry_under key news again (suc at) s.middle there more)

  -- the pages on these sides have room
  side_open : (d : Branch) → (again ≡ at) ⊎ (again ≡ suc at) → (get_or others again d).own < 31
  side_open d (inl is) =
      let before = s.places.1 in
      let page : get_or others again d ≡ s.low =
      ap (λ n. get_or others n d) (omega (arith, before, is)) ∙ ap (λ (l : List Branch). get_or l (length s.before + 0) d) s.below_are ∙ get_or-append-add s.before (s.low ∷ s.high ∷ s.after) 0 d in
      let own = ap (λ (b : Branch). b.own) page ∙ s.split.own.0 in omega (arith, own)
  side_open d (inr is) =
      let before = s.places.1 in
      let page : get_or others again d ≡ s.high =
      ap (λ n. get_or others n d) (omega (arith, before, is)) ∙ ap (λ (l : List Branch). get_or l (length s.before + 1) d) s.below_are ∙ get_or-append-add s.before (s.low ∷ s.high ∷ s.after) 1 d in
      let own = ap (λ (b : Branch). b.own) page ∙ s.split.own.1 in omega (arith, own)

  beside : (again ≡ at) ⊎ (again ≡ suc at)
  beside = ⊎_elim (λ less. absurd (not_before less)) from (cases_lt again at)
    where
      to : at ≤ again → again ≤ suc at → (again ≡ at) ⊎ (again ≡ suc at)
      to low high = ⊎_elim (λ more. inr (omega (arith, low, high, more))) (λ same. inl (omega (arith, low, same))) (cases_lt at again)

      from : at ≤ again → (again ≡ at) ⊎ (again ≡ suc at)
      from low = ⊎_elim (λ less. absurd (not_after less)) (to low) (cases_lt (suc at) again)

  pub open_after_split : IsOpen key news others again
  open_after_split = record {
    place = there;
    open_below = λ d within. side_open d beside;
    open_leaf = λ none. absurd (
        let e = ap length s.below_are ∙ length-append s.before (s.low ∷ s.high ∷ s.after) in
        let n = ap length none in omega (arith, e, n));
  }

-- the entry at the place of a page that was split is the middle one
pub middle_at : (entries : List Chain) (below : List Branch) (at : ℕ) (news : List Chain) (others : List Branch) (s : Splits entries below at news others) (d : Chain) → get_or news at d ≡ s.middle
middle_at entries below at news others s d =
    let front = s.places.0 in
    ap (λ n. get_or news n d) (omega (arith, front)) ∙ ap (λ (l : List Chain). get_or l (length s.front + 0) d) s.entries_are ∙ get_or-append-add s.front (s.middle ∷ s.back) 0 d

-- the place that is sought again, where the lists are given by what is equal to them
pub way_again : (key again : Key) (entries : List Chain) (below : List Branch) (at : ℕ) (news seen : List Chain) (others : List Branch) → Splits entries below at news others
    → IsPlace key entries at → again ≡ key → seen ≡ news → (r : Result ℕ ℕ) → MatchResult r (IsEntry again seen) (IsPlace again seen) → IsWay key news others r
way_again key again entries below at news seen others s place same is r found =
    go r (subst (λ (l : List Chain). MatchResult r (IsEntry key l) (IsPlace key l)) is (subst (λ (k : Key). MatchResult r (IsEntry k seen) (IsPlace k seen)) same found))
  where
    go : (r : Result ℕ ℕ) → MatchResult r (IsEntry key news) (IsPlace key news) → IsWay key news others r
    go (Ok i) m = m
    go (Err i) m = open_after_split key entries below at news others s place i m
