-- A change of one family's map is the same change of the map of all families.
use Rattle.std.proofs.Common.{◌≡◌, ℕ, ◌<◌, ◌≤◌, max, fold, Bool, true, false, cond, List, [], ◌∷◌, ◌++◌, length, ◌+◌, refl, sym, ◌∙◌, ap, subst, arith, length-append, Option}
use Rattle.std.specs.Prelude.{Some, None}
use Rattle.std.proofs.lemmas.Bool.{true≢false}
use Rattle.std.proofs.lemmas.List.{length-map}
use Rattle.std.specs.declared.cmp.Ordering.{Ordering}
use Rattle.std.specs.declared.cmp.Ordering.TheVariants.{Less, Equal, Greater}
use Rattle.std.specs.Ordering.{nat_cmp, ordering_then, match_ordering, MatchOrdering, is_eq}
use Rattle.std.specs.Cmp.{nat_cmp_total, ranks, tied_itself}
use Rattle.std.specs.List.{AllByRecursion}
use Rattle.std.specs.List.Sorted.{IsStrictlySortedBy}
use Rattle.std.specs.Map.{keys_of, lookup, remove_entry, set_value}
use Rattle.std.specs.Option.{unwrap_or}
use Rattle.std.specs.BTreeMap.{insert_entry, is_at}
use Rattle.model_base.specs.declared.key.Key.{Key}
use Rattle.model_base.specs.Map.{Rows, Pairs, byte_order, key_order, row_at, value_at}
use Rattle.base_maps.specs.Families.{pairs_in, pairs_of, AreFamilies}
use Rattle.base_maps.proofs.Within.{all_inserted}

abbrev pub at : ℕ → List ℕ → Key
at family key = record { family = family; bytes = key }

-- the rows of a family, none if it isn't there
abbrev pub rows_at : ℕ → List (ℕ × Rows) → Rows
rows_at f es = unwrap_or (lookup (is_at (nat_cmp f)) es) []

-- ---- families

same_family : (f : ℕ) → nat_cmp f f ≡ Equal
same_family f = tied_itself nat_cmp_total f

one_number : (f g : ℕ) → nat_cmp f g ≡ Equal → f ≡ g
one_number f g e = subst (λ (r : Ordering). MatchOrdering r (f < g) (f ≡ g) (g < f)) e (ranks f g)

-- all of these families are above f, and, below, none of them is f
abbrev pub AreAbove : ℕ → List ℕ → Type 0
AreAbove f fs = AllByRecursion (λ g. nat_cmp f g ≡ Less) fs

abbrev pub AreOthers : ℕ → List ℕ → Type 0
AreOthers f fs = AllByRecursion (λ g. is_eq (nat_cmp f g) ≡ false) fs

above_all : (f g : ℕ) (fs : List ℕ) → nat_cmp f g ≡ Less → AreAbove g fs → AreAbove f fs
above_all f g [] low all = tt
above_all f g (h ∷ fs) low all = (nat_cmp_total.trans f g h low all.0, above_all f g fs low all.1)

others : (f : ℕ) (fs : List ℕ) → AreAbove f fs → AreOthers f fs
others f [] all = tt
others f (g ∷ fs) all = (ap is_eq all.0, others f fs all.1)

absent : (f : ℕ) (es : List (ℕ × Rows)) → AreOthers f (keys_of es) → lookup (is_at (nat_cmp f)) es ≡ None
absent f [] all = refl
absent f (e ∷ es) all = rw all.0 (absent f es all.1)

pub none_there : (f : ℕ) (es : List (ℕ × Rows)) → lookup (is_at (nat_cmp f)) es ≡ None → AreOthers f (keys_of es)
none_there f [] e = tt
none_there f (x ∷ es) e = by (is_eq (nat_cmp f x.0)) refl e (λ found. none_there f es found)
  where
    by : (b : Bool) → is_eq (nat_cmp f x.0) ≡ b → cond b (Some x.1) (lookup (is_at (nat_cmp f)) es) ≡ None
        → (lookup (is_at (nat_cmp f)) es ≡ None → AreOthers f (keys_of es)) → AreOthers f (keys_of (x ∷ es))
    by true is found more = absurd (cc found)
    by false is found more = (is, more found)

-- ---- an insertion

-- these pairs begin with a family above f, if there are any
abbrev pub IsAbove : ℕ → Pairs → Type 0
IsAbove f [] = Unit {0}
IsAbove f (p ∷ pairs) = nat_cmp f p.0.family ≡ Less

first_above : (f g : ℕ) (rows : Rows) (rest : Pairs) → nat_cmp f g ≡ Less → IsAbove f rest → IsAbove f (pairs_in g rows ++ rest)
first_above f g [] rest low above = above
first_above f g (r ∷ rows) rest low above = low

above_pairs : (f : ℕ) (es : List (ℕ × Rows)) → AreAbove f (keys_of es) → IsAbove f (pairs_of es)
above_pairs f [] all = tt
above_pairs f (e ∷ es) all = first_above f e.0 e.1 (pairs_of es) all.0 (above_pairs f es all.1)

put_before : (f : ℕ) (k v : List ℕ) (rest : Pairs) → IsAbove f rest → insert_entry key_order rest (at f k) v ≡ (at f k, v) ∷ rest
put_before f k v [] above = refl
put_before f k v (p ∷ rest) above = rw above refl

put_past : (f g : ℕ) (k v : List ℕ) (rows : Rows) (rest : Pairs) → nat_cmp f g ≡ Greater
    → insert_entry key_order (pairs_in g rows ++ rest) (at f k) v ≡ pairs_in g rows ++ insert_entry key_order rest (at f k) v
put_past f g k v [] rest e = refl
put_past f g k v (r ∷ rows) rest e = rw e (ap (λ (l : Pairs). (at g r.0, r.1) ∷ l) (put_past f g k v rows rest e))

put_in : (f : ℕ) (k v : List ℕ) (rows : Rows) (rest : Pairs) → IsAbove f rest
    → insert_entry key_order (pairs_in f rows ++ rest) (at f k) v ≡ pairs_in f (insert_entry byte_order rows k v) ++ rest
put_in f k v [] rest above = put_before f k v rest above
put_in f k v (r ∷ rows) rest above =
    rw (same_family f) (elim (byte_order k r.0) as (λ o. match_ordering o ((at f k, v) ∷ (at f r.0, r.1) ∷ (pairs_in f rows ++ rest)) ((at f r.0, v) ∷ (pairs_in f rows ++ rest))
    ((at f r.0, r.1) ∷ insert_entry key_order (pairs_in f rows ++ rest) (at f k) v)
    ≡ pairs_in f (match_ordering o ((k, v) ∷ r ∷ rows) ((r.0, v) ∷ rows) (r ∷ insert_entry byte_order rows k v)) ++ rest) [
      | Less ↦ refl
      | Equal ↦ refl
      | Greater ↦ ap (λ (l : Pairs). (at f r.0, r.1) ∷ l) (put_in f k v rows rest above)
    ])

put-by : (f : ℕ) (k v : List ℕ) (e : ℕ × Rows) (es : List (ℕ × Rows)) (r : Ordering) → nat_cmp f e.0 ≡ r → AreAbove e.0 (keys_of es)
    → pairs_of (insert_entry nat_cmp es f (insert_entry byte_order (rows_at f es) k v)) ≡ insert_entry key_order (pairs_of es) (at f k) v
    → pairs_of (insert_entry nat_cmp (e ∷ es) f (insert_entry byte_order (rows_at f (e ∷ es)) k v)) ≡ insert_entry key_order (pairs_of (e ∷ es)) (at f k) v
put-by f k v e es Less low all more =
    let higher : AreAbove f (keys_of es) = above_all f e.0 (keys_of es) low all in
    let whole = sym (put_before f k v (pairs_of (e ∷ es)) (above_pairs f (e ∷ es) (low, higher))) in
    rw (low, absent f es (others f (keys_of es) higher)) whole
put-by f k v e es Equal same all more =
    rw same (sym (put_in e.0 k v e.1 (pairs_of es) (above_pairs e.0 es all))
    ∙ ap (λ (n : ℕ). insert_entry key_order (pairs_of (e ∷ es)) (at n k) v) (sym (one_number f e.0 same)))
put-by f k v e es Greater high all more =
    rw high (ap (λ (l : Pairs). pairs_in e.0 e.1 ++ l) more ∙ sym (put_past f e.0 k v e.1 (pairs_of es) high))

pub put : (f : ℕ) (k v : List ℕ) (es : List (ℕ × Rows)) → IsStrictlySortedBy nat_cmp (keys_of es)
    → pairs_of (insert_entry nat_cmp es f (insert_entry byte_order (rows_at f es) k v)) ≡ insert_entry key_order (pairs_of es) (at f k) v
unfolding IsStrictlySortedBy
put f k v [] sorted = refl
put f k v (e ∷ es) sorted = put-by f k v e es (nat_cmp f e.0) refl sorted.0 (put f k v es sorted.1)

-- ---- a removal

other-by : (r s : Ordering) → is_eq r ≡ false → is_eq (ordering_then r s) ≡ false
other-by Less s e = refl
other-by Equal s e = absurd (true≢false e)
other-by Greater s e = refl

other_key : (f g : ℕ) (k l : List ℕ) → is_eq (nat_cmp f g) ≡ false → is_eq (key_order (at f k) (at g l)) ≡ false
other_key f g k l e = other-by (nat_cmp f g) (byte_order k l) e

take_past : (f g : ℕ) (k : List ℕ) (rows : Rows) (rest : Pairs) → is_eq (nat_cmp f g) ≡ false
    → remove_entry (is_at (key_order (at f k))) (pairs_in g rows ++ rest) ≡ pairs_in g rows ++ remove_entry (is_at (key_order (at f k))) rest
take_past f g k [] rest e = refl
take_past f g k (r ∷ rows) rest e = rw (other_key f g k r.0 e) (ap (λ (l : Pairs). (at g r.0, r.1) ∷ l) (take_past f g k rows rest e))

take_in : (f : ℕ) (k : List ℕ) (rows : Rows) (rest : Pairs) → remove_entry (is_at (key_order (at f k))) rest ≡ rest
    → remove_entry (is_at (key_order (at f k))) (pairs_in f rows ++ rest) ≡ pairs_in f (remove_entry (is_at (byte_order k)) rows) ++ rest
take_in f k [] rest kept = kept
take_in f k (r ∷ rows) rest kept =
    rw (same_family f) (elim (is_eq (byte_order k r.0)) as (λ b. cond b (pairs_in f rows ++ rest) ((at f r.0, r.1) ∷ remove_entry (is_at (key_order (at f k))) (pairs_in f rows ++ rest))
    ≡ pairs_in f (cond b rows (r ∷ remove_entry (is_at (byte_order k)) rows)) ++ rest) [
      | true ↦ refl
      | false ↦ ap (λ (l : Pairs). (at f r.0, r.1) ∷ l) (take_in f k rows rest kept)
    ])

pub untouched : (f : ℕ) (k : List ℕ) (es : List (ℕ × Rows)) → AreOthers f (keys_of es) → remove_entry (is_at (key_order (at f k))) (pairs_of es) ≡ pairs_of es
untouched f k [] all = refl
untouched f k (e ∷ es) all = take_past f e.0 k e.1 (pairs_of es) all.0 ∙ ap (λ (l : Pairs). pairs_in e.0 e.1 ++ l) (untouched f k es all.1)

take-by : (f : ℕ) (k : List ℕ) (e : ℕ × Rows) (es : List (ℕ × Rows)) (b : Bool) → is_eq (nat_cmp f e.0) ≡ b → nat_cmp f e.0 ≡ Equal → AreAbove e.0 (keys_of es)
    → pairs_of ((e.0, remove_entry (is_at (byte_order k)) e.1) ∷ es) ≡ remove_entry (is_at (key_order (at f k))) (pairs_of (e ∷ es))
take-by f k e es b is same all =
    sym (take_in e.0 k e.1 (pairs_of es) (untouched e.0 k es (others e.0 (keys_of es) all)))
    ∙ ap (λ (n : ℕ). remove_entry (is_at (key_order (at n k))) (pairs_of (e ∷ es))) (sym (one_number f e.0 same))

is_equal : (r : Ordering) → is_eq r ≡ true → r ≡ Equal
is_equal Less e = absurd (true≢false (sym e))
is_equal Equal e = refl
is_equal Greater e = absurd (true≢false (sym e))

pub taken : (f : ℕ) (k : List ℕ) (es : List (ℕ × Rows)) → IsStrictlySortedBy nat_cmp (keys_of es)
    → pairs_of (set_value (is_at (nat_cmp f)) es (remove_entry (is_at (byte_order k)) (rows_at f es))) ≡ remove_entry (is_at (key_order (at f k))) (pairs_of es)
unfolding IsStrictlySortedBy
taken f k [] sorted = refl
taken f k (e ∷ es) sorted = by (is_eq (nat_cmp f e.0)) refl (taken f k es sorted.1)
  where
    by : (b : Bool) → is_eq (nat_cmp f e.0) ≡ b
        → pairs_of (set_value (is_at (nat_cmp f)) es (remove_entry (is_at (byte_order k)) (rows_at f es))) ≡ remove_entry (is_at (key_order (at f k))) (pairs_of es)
        → pairs_of (cond b ((e.0, remove_entry (is_at (byte_order k)) (unwrap_or (cond b (Some e.1) (lookup (is_at (nat_cmp f)) es)) [])) ∷ es)
        (e ∷ set_value (is_at (nat_cmp f)) es (remove_entry (is_at (byte_order k)) (unwrap_or (cond b (Some e.1) (lookup (is_at (nat_cmp f)) es)) []))))
        ≡ remove_entry (is_at (key_order (at f k))) (pairs_of (e ∷ es))
    by true is more = take-by f k e es true is (is_equal (nat_cmp f e.0) is) sorted.0
    by false is more = ap (λ (l : Pairs). pairs_in e.0 e.1 ++ l) more ∙ sym (take_past f e.0 k e.1 (pairs_of es) is)

-- ---- a look-up

found_past : (f g : ℕ) (k : List ℕ) (rows : Rows) (rest : Pairs) → is_eq (nat_cmp f g) ≡ false
    → lookup (is_at (key_order (at f k))) (pairs_in g rows ++ rest) ≡ lookup (is_at (key_order (at f k))) rest
found_past f g k [] rest e = refl
found_past f g k (r ∷ rows) rest e = rw (other_key f g k r.0 e) (found_past f g k rows rest e)

found_in : (f : ℕ) (k : List ℕ) (rows : Rows) (rest : Pairs) → lookup (is_at (key_order (at f k))) rest ≡ None
    → lookup (is_at (key_order (at f k))) (pairs_in f rows ++ rest) ≡ row_at rows k
found_in f k [] rest none = none
found_in f k (r ∷ rows) rest none =
    rw (same_family f) (ap (λ (found : Option (List ℕ)). cond (is_eq (byte_order k r.0)) (Some r.1) found) (found_in f k rows rest none))

none_found : (f : ℕ) (k : List ℕ) (es : List (ℕ × Rows)) → AreOthers f (keys_of es) → lookup (is_at (key_order (at f k))) (pairs_of es) ≡ None
none_found f k [] all = refl
none_found f k (e ∷ es) all = found_past f e.0 k e.1 (pairs_of es) all.0 ∙ none_found f k es all.1

pub found : (f : ℕ) (k : List ℕ) (es : List (ℕ × Rows)) → IsStrictlySortedBy nat_cmp (keys_of es)
    → lookup (is_at (key_order (at f k))) (pairs_of es) ≡ row_at (rows_at f es) k
unfolding IsStrictlySortedBy
found f k [] sorted = refl
found f k (e ∷ es) sorted = by (is_eq (nat_cmp f e.0)) refl (found f k es sorted.1)
  where
    by : (b : Bool) → is_eq (nat_cmp f e.0) ≡ b
        → lookup (is_at (key_order (at f k))) (pairs_of es) ≡ row_at (rows_at f es) k
        → lookup (is_at (key_order (at f k))) (pairs_of (e ∷ es)) ≡ row_at (unwrap_or (cond b (Some e.1) (lookup (is_at (nat_cmp f)) es)) []) k
    by true is more =
        let same = one_number f e.0 (is_equal (nat_cmp f e.0) is) in
        ap (λ (n : ℕ). lookup (is_at (key_order (at n k))) (pairs_of (e ∷ es))) same
        ∙ found_in e.0 k e.1 (pairs_of es) (none_found e.0 k es (others e.0 (keys_of es) sorted.0))
    by false is more = found_past f e.0 k e.1 (pairs_of es) is ∙ more

-- ---- the order of all pairs

abbrev pub Below : Key → Pairs → Type 0
Below key pairs = AllByRecursion (λ other. key_order key other ≡ Less) (keys_of pairs)

below_others : (f g : ℕ) (k : List ℕ) (rows : Rows) (rest : Pairs) → nat_cmp f g ≡ Less → Below (at f k) rest → Below (at f k) (pairs_in g rows ++ rest)
below_others f g k [] rest low all = all
below_others f g k (r ∷ rows) rest low all = (rw low refl, below_others f g k rows rest low all)

below_all : (f : ℕ) (k : List ℕ) (es : List (ℕ × Rows)) → AreAbove f (keys_of es) → Below (at f k) (pairs_of es)
below_all f k [] all = tt
below_all f k (e ∷ es) all = below_others f e.0 k e.1 (pairs_of es) all.0 (below_all f k es all.1)

below_same : (f : ℕ) (k : List ℕ) (rows : Rows) (rest : Pairs) → AllByRecursion (λ l. byte_order k l ≡ Less) (keys_of rows) → Below (at f k) rest → Below (at f k) (pairs_in f rows ++ rest)
below_same f k [] rest all above = above
below_same f k (r ∷ rows) rest all above = (rw (same_family f) all.0, below_same f k rows rest all.1 above)

in_family : (f : ℕ) (rows : Rows) (es : List (ℕ × Rows)) → IsStrictlySortedBy byte_order (keys_of rows) → AreAbove f (keys_of es)
    → IsStrictlySortedBy key_order (keys_of (pairs_of es)) → IsStrictlySortedBy key_order (keys_of (pairs_in f rows ++ pairs_of es))
unfolding IsStrictlySortedBy
in_family f [] es sorted above rest = rest
in_family f (r ∷ rows) es sorted above rest = (below_same f r.0 rows (pairs_of es) sorted.0 (below_all f r.0 es above), in_family f rows es sorted.1 above rest)

ordered_from : (es : List (ℕ × Rows)) → IsStrictlySortedBy nat_cmp (keys_of es) → AllByRecursion (λ (f : ℕ × Rows). IsStrictlySortedBy byte_order (keys_of f.1)) es
    → IsStrictlySortedBy key_order (keys_of (pairs_of es))
unfolding IsStrictlySortedBy
ordered_from [] order rows = tt
ordered_from (e ∷ es) order rows = in_family e.0 e.1 es rows.0 order.0 (ordered_from es order.1 rows.1)

pub ordered : (es : List (ℕ × Rows)) → AreFamilies es → IsStrictlySortedBy key_order (keys_of (pairs_of es))
ordered es are = ordered_from es are.order are.rows

-- ---- the default family's map, and the others

above_zero : (f : ℕ) → (f ≡ 0 → ⊥) → nat_cmp f 0 ≡ Greater
above_zero f some = by (nat_cmp f 0) (ranks f 0)
  where
    by : (r : Ordering) → MatchOrdering r (f < 0) (f ≡ 0) (0 < f) → r ≡ Greater
    by Less h = absurd (omega (arith, h))
    by Equal h = absurd (some h)
    by Greater h = refl

below_some : (f : ℕ) → (f ≡ 0 → ⊥) → nat_cmp 0 f ≡ Less
below_some f some = by (nat_cmp 0 f) (ranks 0 f)
  where
    by : (r : Ordering) → MatchOrdering r (0 < f) (0 ≡ f) (f < 0) → r ≡ Less
    by Less h = refl
    by Equal h = absurd (some (sym h))
    by Greater h = absurd (omega (arith, h))

AreSorted : List (ℕ × Rows) → Type 0
AreSorted es = AllByRecursion (λ (e : ℕ × Rows). IsStrictlySortedBy byte_order (keys_of e.1)) es

-- no families but the default one
pub no_others : (first : Rows) (others : List (ℕ × Rows)) → first ≡ [] → others ≡ [] → AreFamilies ((0, first) ∷ others)
unfolding IsStrictlySortedBy
no_others first others none alone = rw (none, alone) (record { order = (tt, tt); rows = (tt, tt) })

pub no_pairs : (first : Rows) (others : List (ℕ × Rows)) → first ≡ [] → others ≡ [] → pairs_of ((0, first) ∷ others) ≡ []
no_pairs first others none alone = rw (none, alone) refl

-- the default family's map changes
pub with_first : (first changed : Rows) (others : List (ℕ × Rows)) → AreFamilies ((0, first) ∷ others) → IsStrictlySortedBy byte_order (keys_of changed)
    → AreFamilies ((0, changed) ∷ others)
unfolding IsStrictlySortedBy
with_first first changed others are sorted = record { order = are.order; rows = (sorted, are.rows.1) }

pub put_first : (f : ℕ) (k v : List ℕ) (first changed : Rows) (others : List (ℕ × Rows)) (m : Pairs) → AreFamilies ((0, first) ∷ others)
    → pairs_of ((0, first) ∷ others) ≡ m → f ≡ 0 → changed ≡ insert_entry byte_order first k v
    → pairs_of ((0, changed) ∷ others) ≡ insert_entry key_order m (at f k) v
put_first f k v first changed others m are is zero e =
    ap (λ (r : Rows). pairs_of ((0, r) ∷ others)) e ∙ put 0 k v ((0, first) ∷ others) are.order
    ∙ ap (λ (n : ℕ). insert_entry key_order (pairs_of ((0, first) ∷ others)) (at n k) v) (sym zero)
    ∙ ap (λ (l : Pairs). insert_entry key_order l (at f k) v) is

pub take_first : (f : ℕ) (k : List ℕ) (first changed : Rows) (others : List (ℕ × Rows)) (m : Pairs) → AreFamilies ((0, first) ∷ others)
    → pairs_of ((0, first) ∷ others) ≡ m → f ≡ 0 → changed ≡ remove_entry (is_at (byte_order k)) first
    → pairs_of ((0, changed) ∷ others) ≡ remove_entry (is_at (key_order (at f k))) m
take_first f k first changed others m are is zero e =
    ap (λ (r : Rows). pairs_of ((0, r) ∷ others)) e ∙ taken 0 k ((0, first) ∷ others) are.order
    ∙ ap (λ (n : ℕ). remove_entry (is_at (key_order (at n k))) (pairs_of ((0, first) ∷ others))) (sym zero)
    ∙ ap (λ (l : Pairs). remove_entry (is_at (key_order (at f k))) l) is

pub found_first : (f : ℕ) (k : List ℕ) (first : Rows) (others : List (ℕ × Rows)) (m : Pairs) → AreFamilies ((0, first) ∷ others)
    → pairs_of ((0, first) ∷ others) ≡ m → f ≡ 0 → row_at first k ≡ value_at m (at f k)
found_first f k first others m are is zero =
    sym (found 0 k ((0, first) ∷ others) are.order) ∙ ap (λ (n : ℕ). value_at (pairs_of ((0, first) ∷ others)) (at n k)) (sym zero)
    ∙ ap (λ (l : Pairs). value_at l (at f k)) is

-- the map of another family changes
rows_put : (f : ℕ) (w : Rows) (es : List (ℕ × Rows)) → IsStrictlySortedBy byte_order (keys_of w) → AreSorted es → AreSorted (insert_entry nat_cmp es f w)
unfolding AreSorted
rows_put f w [] sorted all = (sorted, tt)
rows_put f w (e ∷ es) sorted all = by (nat_cmp f e.0) (rows_put f w es sorted all.1)
  where
    by : (r : Ordering) → AreSorted (insert_entry nat_cmp es f w) → AreSorted (match_ordering r ((f, w) ∷ e ∷ es) ((e.0, w) ∷ es) (e ∷ insert_entry nat_cmp es f w))
    by Less more = (sorted, all)
    by Equal more = (sorted, all.1)
    by Greater more = (all.0, more)

rows_set : (test : ℕ → Bool) (w : Rows) (es : List (ℕ × Rows)) → IsStrictlySortedBy byte_order (keys_of w) → AreSorted es → AreSorted (set_value test es w)
unfolding AreSorted
rows_set test w [] sorted all = tt
rows_set test w (e ∷ es) sorted all = by (test e.0) (rows_set test w es sorted all.1)
  where
    by : (b : Bool) → AreSorted (set_value test es w) → AreSorted (cond b ((e.0, w) ∷ es) (e ∷ set_value test es w))
    by true more = (sorted, all.1)
    by false more = (all.0, more)

pub with_other : (f : ℕ) (w first : Rows) (others changed : List (ℕ × Rows)) → AreFamilies ((0, first) ∷ others) → (f ≡ 0 → ⊥)
    → changed ≡ insert_entry nat_cmp others f w → IsStrictlySortedBy nat_cmp (keys_of changed) → IsStrictlySortedBy byte_order (keys_of w)
    → AreFamilies ((0, first) ∷ changed)
unfolding IsStrictlySortedBy AreSorted
with_other f w first others changed are some e order sorted = record {
  order = (subst (λ (l : List (ℕ × Rows)). AreAbove 0 (keys_of l)) (sym e) (all_inserted nat_cmp nat_cmp_total (λ g. nat_cmp 0 g ≡ Less) f w others (below_some f some) are.order.0), order);
  rows = (are.rows.0, subst AreSorted (sym e) (rows_put f w others sorted are.rows.1));
}

pub put_other : (f : ℕ) (k v : List ℕ) (w first : Rows) (others changed : List (ℕ × Rows)) (m : Pairs) → AreFamilies ((0, first) ∷ others)
    → pairs_of ((0, first) ∷ others) ≡ m → (f ≡ 0 → ⊥) → changed ≡ insert_entry nat_cmp others f w → w ≡ insert_entry byte_order (rows_at f others) k v
    → pairs_of ((0, first) ∷ changed) ≡ insert_entry key_order m (at f k) v
put_other f k v w first others changed m are is some e is_put =
    let high = above_zero f some in
    let whole : pairs_of ((0, first) ∷ insert_entry nat_cmp others f (insert_entry byte_order (rows_at f others) k v)) ≡ insert_entry key_order (pairs_of ((0, first) ∷ others)) (at f k) v =
    (rw high at (put f k v ((0, first) ∷ others) are.order)) in
    ap (λ (l : List (ℕ × Rows)). pairs_of ((0, first) ∷ l)) (e ∙ ap (λ (r : Rows). insert_entry nat_cmp others f r) is_put) ∙ whole
    ∙ ap (λ (l : Pairs). insert_entry key_order l (at f k) v) is

kept : (f : ℕ) (es : List (ℕ × Rows)) → IsStrictlySortedBy nat_cmp (keys_of es) → pairs_of (insert_entry nat_cmp es f (rows_at f es)) ≡ pairs_of es
unfolding IsStrictlySortedBy
kept f [] sorted = refl
kept f (e ∷ es) sorted = by (nat_cmp f e.0) refl (kept f es sorted.1)
  where
    by : (r : Ordering) → nat_cmp f e.0 ≡ r → pairs_of (insert_entry nat_cmp es f (rows_at f es)) ≡ pairs_of es
        → pairs_of (insert_entry nat_cmp (e ∷ es) f (rows_at f (e ∷ es))) ≡ pairs_of (e ∷ es)
    by Less low more = rw (low, absent f es (others f (keys_of es) (above_all f e.0 (keys_of es) low sorted.0))) refl
    by Equal same more = rw same refl
    by Greater high more = rw high (ap (λ (l : Pairs). pairs_in e.0 e.1 ++ l) more)

pub kept_other : (f : ℕ) (w first : Rows) (es changed : List (ℕ × Rows)) (m : Pairs) → AreFamilies ((0, first) ∷ es)
    → pairs_of ((0, first) ∷ es) ≡ m → changed ≡ insert_entry nat_cmp es f w → w ≡ rows_at f es → pairs_of ((0, first) ∷ changed) ≡ m
unfolding IsStrictlySortedBy
kept_other f w first es changed m are is e same =
    ap (λ (l : List (ℕ × Rows)). pairs_of ((0, first) ∷ l)) (e ∙ ap (λ (r : Rows). insert_entry nat_cmp es f r) same)
    ∙ ap (λ (l : Pairs). pairs_in 0 first ++ l) (kept f es are.order.1) ∙ is

pub set_other : (f : ℕ) (w first : Rows) (others changed : List (ℕ × Rows)) → AreFamilies ((0, first) ∷ others)
    → changed ≡ set_value (is_at (nat_cmp f)) others w → keys_of changed ≡ keys_of others → IsStrictlySortedBy byte_order (keys_of w)
    → AreFamilies ((0, first) ∷ changed)
unfolding IsStrictlySortedBy AreSorted
set_other f w first others changed are e keys sorted = record {
  order = subst (λ (l : List ℕ). IsStrictlySortedBy nat_cmp (0 ∷ l)) (sym keys) are.order;
  rows = (are.rows.0, subst AreSorted (sym e) (rows_set (is_at (nat_cmp f)) w others sorted are.rows.1));
}

pub take_other : (f : ℕ) (k : List ℕ) (w first : Rows) (others changed : List (ℕ × Rows)) (m : Pairs) → AreFamilies ((0, first) ∷ others)
    → pairs_of ((0, first) ∷ others) ≡ m → (f ≡ 0 → ⊥) → changed ≡ set_value (is_at (nat_cmp f)) others w → w ≡ remove_entry (is_at (byte_order k)) (rows_at f others)
    → pairs_of ((0, first) ∷ changed) ≡ remove_entry (is_at (key_order (at f k))) m
take_other f k w first others changed m are is some e is_cut =
    let high = above_zero f some in
    let whole : pairs_of ((0, first) ∷ set_value (is_at (nat_cmp f)) others (remove_entry (is_at (byte_order k)) (rows_at f others))) ≡ remove_entry (is_at (key_order (at f k))) (pairs_of ((0, first) ∷ others)) =
    (rw high at (taken f k ((0, first) ∷ others) are.order)) in
    ap (λ (l : List (ℕ × Rows)). pairs_of ((0, first) ∷ l)) (e ∙ ap (λ (r : Rows). set_value (is_at (nat_cmp f)) others r) is_cut) ∙ whole
    ∙ ap (λ (l : Pairs). remove_entry (is_at (key_order (at f k))) l) is

pub no_other : (f : ℕ) (k : List ℕ) (first : Rows) (es : List (ℕ × Rows)) (m : Pairs) → pairs_of ((0, first) ∷ es) ≡ m → (f ≡ 0 → ⊥)
    → lookup (is_at (nat_cmp f)) es ≡ None → pairs_of ((0, first) ∷ es) ≡ remove_entry (is_at (key_order (at f k))) m
no_other f k first es m is some none =
    sym (untouched f k ((0, first) ∷ es) (ap is_eq (above_zero f some), none_there f es none)) ∙ ap (λ (l : Pairs). remove_entry (is_at (key_order (at f k))) l) is

pub found_other : (f : ℕ) (k : List ℕ) (first rows : Rows) (others : List (ℕ × Rows)) (m : Pairs) → AreFamilies ((0, first) ∷ others)
    → pairs_of ((0, first) ∷ others) ≡ m → (f ≡ 0 → ⊥) → rows_at f others ≡ rows → row_at rows k ≡ value_at m (at f k)
found_other f k first rows others m are is some there =
    let high = above_zero f some in
    ap (λ (r : Rows). row_at r k) (sym there) ∙ sym (rw high at (found f k ((0, first) ∷ others) are.order)) ∙ ap (λ (l : Pairs). value_at l (at f k)) is

-- setting the rows of a family that is there is putting them
set_is_put : (f : ℕ) (w old : Rows) (es : List (ℕ × Rows)) → IsStrictlySortedBy nat_cmp (keys_of es) → lookup (is_at (nat_cmp f)) es ≡ Some old
    → set_value (is_at (nat_cmp f)) es w ≡ insert_entry nat_cmp es f w
unfolding IsStrictlySortedBy
set_is_put f w old [] sorted there = absurd (cc there)
set_is_put f w old (e ∷ es) sorted there = by (nat_cmp f e.0) refl there (λ more. set_is_put f w old es sorted.1 more)
  where
    by : (r : Ordering) → nat_cmp f e.0 ≡ r → cond (is_eq r) (Some e.1) (lookup (is_at (nat_cmp f)) es) ≡ Some old
        → (lookup (is_at (nat_cmp f)) es ≡ Some old → set_value (is_at (nat_cmp f)) es w ≡ insert_entry nat_cmp es f w)
        → cond (is_eq r) ((e.0, w) ∷ es) (e ∷ set_value (is_at (nat_cmp f)) es w) ≡ match_ordering r ((f, w) ∷ e ∷ es) ((e.0, w) ∷ es) (e ∷ insert_entry nat_cmp es f w)
    by Less low there more = let none = absent f es (others f (keys_of es) (above_all f e.0 (keys_of es) low sorted.0)) in absurd (cc (none, there))
    by Equal same there more = refl
    by Greater high there more = ap (λ (l : List (ℕ × Rows)). e ∷ l) (more there)

-- A key of a family that is there is given a value.
pub put_there : (f : ℕ) (k v : List ℕ) (w old first : Rows) (es changed : List (ℕ × Rows)) (m : Pairs) → AreFamilies ((0, first) ∷ es)
    → pairs_of ((0, first) ∷ es) ≡ m → (f ≡ 0 → ⊥) → lookup (is_at (nat_cmp f)) es ≡ Some old → changed ≡ set_value (is_at (nat_cmp f)) es w → w ≡ insert_entry byte_order old k v
    → pairs_of ((0, first) ∷ changed) ≡ insert_entry key_order m (at f k) v
unfolding IsStrictlySortedBy
put_there f k v w old first es changed m are is some there e is_put =
    put_other f k v w first es changed m are is some (e ∙ set_is_put f w old es are.order.1 there)
    (is_put ∙ ap (λ (o : Option Rows). insert_entry byte_order (unwrap_or o []) k v) (sym there))

pub kept_there : (f : ℕ) (w old first : Rows) (es changed : List (ℕ × Rows)) (m : Pairs) → AreFamilies ((0, first) ∷ es)
    → pairs_of ((0, first) ∷ es) ≡ m → lookup (is_at (nat_cmp f)) es ≡ Some old → changed ≡ set_value (is_at (nat_cmp f)) es w → w ≡ old → pairs_of ((0, first) ∷ changed) ≡ m
unfolding IsStrictlySortedBy
kept_there f w old first es changed m are is there e same =
    kept_other f w first es changed m are is (e ∙ set_is_put f w old es are.order.1 there) (same ∙ ap (λ (o : Option Rows). unwrap_or o []) (sym there))

-- A key of a family that isn't there is given a value.
pub put_new : (f : ℕ) (k v : List ℕ) (w first : Rows) (es changed : List (ℕ × Rows)) (m : Pairs) → AreFamilies ((0, first) ∷ es)
    → pairs_of ((0, first) ∷ es) ≡ m → (f ≡ 0 → ⊥) → lookup (is_at (nat_cmp f)) es ≡ None → changed ≡ insert_entry nat_cmp es f w → w ≡ insert_entry byte_order [] k v
    → pairs_of ((0, first) ∷ changed) ≡ insert_entry key_order m (at f k) v
put_new f k v w first es changed m are is some none e is_put =
    put_other f k v w first es changed m are is some e (is_put ∙ ap (λ (o : Option Rows). insert_entry byte_order (unwrap_or o []) k v) (sym none))

-- ---- the pairs one by one

-- how many pairs there are: those of the first family, and those of the others
pub counted_families : (f : ℕ) (rows : Rows) (es : List (ℕ × Rows)) → length (pairs_of ((f, rows) ∷ es)) ≡ length rows + length (pairs_of es)
counted_families f rows es = length-append (pairs_in f rows) (pairs_of es) ∙ ap (λ (n : ℕ). n + length (pairs_of es)) (length-map rows _)

-- the first pair, and where a family has no pairs left
pub first_pair : (f : ℕ) (r : List ℕ × List ℕ) (rows : Rows) (es : List (ℕ × Rows)) → pairs_of ((f, r ∷ rows) ∷ es) ≡ (at f r.0, r.1) ∷ pairs_of ((f, rows) ∷ es)
first_pair f r rows es = refl

pub next_family : (f : ℕ) (es : List (ℕ × Rows)) → pairs_of ((f, []) ∷ es) ≡ pairs_of es
next_family f es = refl

-- ---- the greatest family

abbrev pub greatest_behind : ℕ → Pairs → ℕ
greatest_behind n m = fold (λ g p. max g p.0.family) n m

-- a family counts where it has rows
pub greatest_with : (n f : ℕ) (rows : Rows) (es : List (ℕ × Rows)) → 0 < length rows → greatest_behind n (pairs_of ((f, rows) ∷ es)) ≡ greatest_behind (max n f) (pairs_of es)
greatest_with n f [] es some = absurd (omega (arith, some))
greatest_with n f (r ∷ []) es some = refl
greatest_with n f (r ∷ s ∷ rows) es some =
    let twice : max (max n f) f ≡ max n f = omega arith in
    greatest_with (max n f) f (s ∷ rows) es (omega arith) ∙ ap (λ (g : ℕ). greatest_behind g (pairs_of es)) twice

pub greatest_without : (n f : ℕ) (rows : Rows) (es : List (ℕ × Rows)) → length rows ≡ 0 → greatest_behind n (pairs_of ((f, rows) ∷ es)) ≡ greatest_behind n (pairs_of es)
greatest_without n f [] es none = refl
greatest_without n f (r ∷ rows) es none = absurd (omega (arith, none))

-- the default family, whose number is 0, changes nothing
pub greatest_behind_first : (rows : Rows) (es : List (ℕ × Rows)) → greatest_behind 0 (pairs_of ((0, rows) ∷ es)) ≡ greatest_behind 0 (pairs_of es)
greatest_behind_first [] es = refl
greatest_behind_first (r ∷ rows) es = greatest_with 0 0 (r ∷ rows) es (omega arith)

-- ---- how many keys there may be

-- a change gives one key more at most
pub length-put : {K X : Type 0} (order : K → K → Ordering) (es : List (K × X)) (k : K) (v : X) → length (insert_entry order es k v) ≤ length es + 1
length-put order [] k v = omega arith
length-put order (e ∷ es) k v = by (order k e.0) (length-put order es k v)
  where
    by : (r : Ordering) → length (insert_entry order es k v) ≤ length es + 1 → length (match_ordering r ((k, v) ∷ e ∷ es) ((e.0, v) ∷ es) (e ∷ insert_entry order es k v)) ≤ length (e ∷ es) + 1
    by Less more = omega arith
    by Equal more = omega arith
    by Greater more = omega (arith, more)

-- and a removal gives none
pub length-cut : {K X : Type 0} (test : K → Bool) (es : List (K × X)) → length (remove_entry test es) ≤ length es
length-cut test [] = omega arith
length-cut test (e ∷ es) = by (test e.0) (length-cut test es)
  where
    by : (b : Bool) → length (remove_entry test es) ≤ length es → length (cond b es (e ∷ remove_entry test es)) ≤ length (e ∷ es)
    by true less = omega arith
    by false less = omega (arith, less)
