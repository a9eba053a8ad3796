-- Which chains of a page are of keys in a range, and the rows that they give.
use Rattle.std.proofs.Common.{◌≡◌, ◌≢◌, ℕ, zero, suc, ◌<◌, true, false, cond, not, List, [], ◌∷◌, ◌++◌, length, take, drop, get_or, refl, sym, ap, ◌∙◌, subst, arith, append_assoc}
use Rattle.std.proofs.lemmas.Bool.{and_left, and_right}
use Rattle.std.proofs.lemmas.List.{append-nil, map-append}
use Rattle.std.proofs.lemmas.List.Elements.{filter-append}
use Rattle.std.specs.List.{AllByRecursion}
use Rattle.std.specs.Ordering.{is_lt}
use Rattle.std.specs.declared.cmp.Ordering.{Ordering}
use Rattle.std.specs.declared.cmp.Ordering.TheVariants.{Less, Equal, Greater}
use Rattle.model_base.specs.declared.key.Key.{Key}
use Rattle.model_base.specs.Map.{Pairs, Rows, key_order}
use Rattle.table_nodes.specs.Chains.{Chain, key_of, chain_versions, chain_order, AreSorted}
use Rattle.table_nodes.specs.Newest.{first_up_to, said}
use Rattle.table_tree.specs.Pages.{Branch, woven}
use Rattle.table_tree.specs.Places.{AreUnder}
use Rattle.table_tree.specs.Ranges.{page_at}
use Rattle.table_tree.specs.Rows.{is_between, between, pair_of, pairs_at, rows_in}
use Rattle.table_tree.proofs.Order.{all_mapped, all_both, sorted_back, sorted_past, flip_less, flip_greater}
use Rattle.table_tree.proofs.Weaving.{left_of, after}
use Rattle.table_tree.proofs.Searching.{under_front}
use Rattle.table_tree.proofs.Keyed.{first_sorted}
use Rattle.table_rule.proofs.Keys.{key_total}

less_from : (o : Ordering) → is_lt o ≡ true → o ≡ Less
less_from Less e = refl
less_from Equal e = absurd (cc)
less_from Greater e = absurd (cc)

pub not_less : (o : Ordering) → (o ≡ Less → ⊥) → is_lt o ≡ false
not_less Less n = absurd (n refl)
not_less Equal n = refl
not_less Greater n = refl

module _ (lo hi : Key) where
  between_none : (l : List Chain) → AllByRecursion (λ c. is_between lo hi (key_of c) ≡ false) l → between lo hi l ≡ []
  between_none [] a = refl
  between_none (c ∷ l) a = ap (λ b. cond b (c ∷ between lo hi l) (between lo hi l)) a.0 ∙ between_none l a.1

  pub between-append : (l m : List Chain) → between lo hi (l ++ m) ≡ between lo hi l ++ between lo hi m
  between-append l m = filter-append (λ (c : Chain). is_between lo hi (key_of c)) l m

  below : (k : Key) → key_order k lo ≡ Less → is_between lo hi k ≡ false
  below k less = and_left _ _ (ap (λ o. not (is_lt o)) less)

  above : (k : Key) → is_lt (key_order k hi) ≡ false → is_between lo hi k ≡ false
  above k high = and_right _ _ high

  -- no key of the range is under its beginning
  pub none_under : (l : List Chain) → AreUnder lo l → between lo hi l ≡ []
  none_under l under =
      between_none l (all_mapped (λ (c : Chain). key_order lo (key_of c) ≡ Greater) (λ c. is_between lo hi (key_of c) ≡ false)
      (λ c p. below (key_of c) (flip_greater key_order key_total lo (key_of c) p)) l under)

  -- nor from its end on
  pub none_from : (l : List Chain) → AllByRecursion (λ (c : Chain). key_order hi (key_of c) ≢ Greater) l → between lo hi l ≡ []
  none_from l from =
      between_none l (all_mapped (λ (c : Chain). key_order hi (key_of c) ≢ Greater) (λ c. is_between lo hi (key_of c) ≡ false)
      (λ c n. above (key_of c) (not_less (key_order (key_of c) hi) (λ less. n (flip_less key_order key_total (key_of c) hi less)))) l from)

-- the chains of the first entries, each with the page before it
abbrev pub until : List Branch → List Chain → List Chain
until [] front = front
until (b ∷ below) [] = []
until (b ∷ below) (e ∷ front) = b.chains ++ e ∷ until below front

pub until_page : (below : List Branch) (front : List Chain) → left_of below front ≡ until below front ++ page_at below (length front)
until_page [] front = sym (append-nil front)
until_page (b ∷ below) [] = refl
until_page (b ∷ below) (e ∷ front) =
    ap (λ (l : List Chain). b.chains ++ e ∷ l) (until_page below front) ∙ sym (append_assoc b.chains (e ∷ until below front) (page_at below (length front)))

-- all chains are those up to a page, and those after it
pub woven_after : (below : List Branch) (front back : List Chain) → woven below (front ++ back) ≡ left_of below front ++ after back (drop (suc (length front)) below)
woven_after [] [] [] = refl
woven_after [] [] (e ∷ back) = refl
woven_after [] (e ∷ front) back = ap (λ (l : List Chain). e ∷ l) (woven_after [] front back)
woven_after (b ∷ below) [] [] = sym (append-nil b.chains)
woven_after (b ∷ below) [] (e ∷ back) = refl
woven_after (b ∷ below) (e ∷ front) back =
    ap (λ (l : List Chain). b.chains ++ e ∷ l) (woven_after below front back)
    ∙ sym (append_assoc b.chains (e ∷ left_of below front) (after back (drop (suc (length front)) below)))

-- one entry further, and the page after it
pub one_further : (below : List Branch) (entries : List Chain) (at : ℕ) (d : Chain) → at < length entries
    → left_of below (take (suc at) entries) ≡ left_of below (take at entries) ++ get_or entries at d ∷ page_at below (suc at)
one_further below [] at d less = absurd (omega (arith, less))
one_further [] (e ∷ entries) zero d less = refl
one_further [] (e ∷ entries) (suc at) d less = ap (λ (l : List Chain). e ∷ l) (one_further [] entries at d (omega (arith, less)))
one_further (b ∷ []) (e ∷ entries) zero d less = refl
one_further (b ∷ c ∷ below) (e ∷ entries) zero d less = refl
one_further (b ∷ below) (e ∷ entries) (suc at) d less =
    ap (λ (l : List Chain). b.chains ++ e ∷ l) (one_further below entries at d (omega (arith, less)))
    ∙ sym (append_assoc b.chains (e ∷ left_of below (take at entries)) (get_or entries at d ∷ page_at below (suc at)))

-- what is before a page is under the beginning, if the entries there are
pub until_under : (key : Key) (below : List Branch) (front rest : List Chain) → AreSorted (until below front ++ rest) → AreUnder key front → AreUnder key (until below front)
until_under key [] front rest sorted under = under
until_under key (b ∷ below) [] rest sorted under = tt
until_under key (b ∷ below) (e ∷ front) rest sorted under =
    let apart : AreSorted (b.chains ++ e ∷ (until below front ++ rest)) = subst AreSorted (append_assoc b.chains (e ∷ until below front) rest) sorted in
    let others = (sorted_past chain_order e (until below front ++ rest) (sorted_back chain_order b.chains (e ∷ (until below front ++ rest)) apart)).1 in
    all_both (λ (d : Chain). key_order key (key_of d) ≡ Greater) b.chains (e ∷ until below front)
    (under_front key b.chains (until below front ++ rest) e apart under.0) (under.0, until_under key below front rest others under.1)

-- what follows an entry that isn't below the end isn't either
pub from_back : (key : Key) (c : Chain) (r : List Chain) → AreSorted (c ∷ r) → key_order key (key_of c) ≢ Greater → AllByRecursion (λ (d : Chain). key_order key (key_of d) ≢ Greater) (c ∷ r)
from_back key c r sorted n = (
  n,
  all_mapped (λ d. chain_order c d ≡ Less) (λ d. key_order key (key_of d) ≢ Greater)
      (λ d p g. n (flip_less key_order key_total (key_of c) key (key_total.trans (key_of c) (key_of d) key p (flip_greater key_order key_total key (key_of d) g)))) r (first_sorted c r sorted).0,
)

module _ (at : ℕ) where
  pairs_at-append : (l m : List Chain) → pairs_at at (l ++ m) ≡ pairs_at at l ++ pairs_at at m
  pairs_at-append [] m = refl
  pairs_at-append (c ∷ l) m =
      let pair = pair_of (key_of c) (said (first_up_to at (chain_versions c))) in
      ap (λ (t : Pairs). pair ++ t) (pairs_at-append l m) ∙ sym (append_assoc pair (pairs_at at l) (pairs_at at m))

  rows_in-append : (l m : Pairs) → rows_in (l ++ m) ≡ rows_in l ++ rows_in m
  rows_in-append l m = map-append (λ (p : Key × List ℕ). (p.0.bytes, p.1)) l m

  -- the rows of the left side, of the chain between, and of the right side
  pub gathered : (l r : List Chain) (c : Chain) (rows rows_left rows_here : Rows) → rows_left ≡ rows ++ rows_in (pairs_at at l)
      → rows_here ≡ rows_left ++ rows_in (pair_of (key_of c) (said (first_up_to at (chain_versions c)))) → rows_here ++ rows_in (pairs_at at r) ≡ rows ++ rows_in (pairs_at at (l ++ c ∷ r))
  gathered l r c rows rows_left rows_here left here =
      let pair = pair_of (key_of c) (said (first_up_to at (chain_versions c))) in
      let all : rows_in (pairs_at at (l ++ c ∷ r)) ≡ rows_in (pairs_at at l) ++ (rows_in pair ++ rows_in (pairs_at at r)) =
      ap rows_in (pairs_at-append l (c ∷ r)) ∙ rows_in-append (pairs_at at l) (pairs_at at (c ∷ r)) ∙ ap (λ (t : Rows). rows_in (pairs_at at l) ++ t) (rows_in-append pair (pairs_at at r)) in
      ap (λ (t : Rows). t ++ rows_in (pairs_at at r)) here ∙ append_assoc rows_left (rows_in pair) (rows_in (pairs_at at r))
      ∙ ap (λ (t : Rows). t ++ (rows_in pair ++ rows_in (pairs_at at r))) left ∙ append_assoc rows (rows_in (pairs_at at l)) (rows_in pair ++ rows_in (pairs_at at r))
      ∙ ap (λ (t : Rows). rows ++ t) (sym all)
