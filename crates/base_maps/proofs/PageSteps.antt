-- The pairs of a page, one after another, and how a change of its bytes changes them.
use Rattle.std.proofs.Common.{◌≡◌, ℕ, ◌+◌, ◌-◌, ◌<◌, ◌≤◌, Bool, true, false, cond, eqb, List, [], ◌∷◌, ◌++◌, length, take, drop, Bor, refl, sym, ap, ◌∙◌, subst, append_assoc, append-nil, length-append, arith}
use Rattle.std.specs.Prelude.{not, Option, Some, None}
use Rattle.std.specs.Option.{is_some, is_none, option_copied}
use Rattle.std.specs.List.{AllByRecursion}
use Rattle.std.specs.Cmp.{ranks}
use Rattle.std.specs.Ordering.{nat_cmp, ordering_then, MatchOrdering}
use Rattle.std.specs.declared.cmp.Ordering.{Ordering}
use Rattle.std.specs.declared.cmp.Ordering.TheVariants.{Less, Equal, Greater}
use Rattle.std.specs.BTreeMap.{insert_entry, is_at}
use Rattle.std.specs.Map.{lookup, remove_entry}
use Rattle.std.proofs.Math.Seq.{take-append_seam, drop-append_seam}
use Rattle.std.proofs.lemmas.Bool.{true≢false}
use Rattle.std.proofs.lemmas.Bool.Decides.{nat_tests}
use Rattle.std.proofs.lemmas.Cmp.{nat_list_cmp_total, tied_itself}
use Rattle.model_base.specs.Map.{Rows, byte_order, row_at}
use Rattle.base_keys.specs.Fronts.{front_of}
use Rattle.base_maps.specs.Words.{bytes_of_pair, bytes_of_pairs, IsShort, Read, read_len, read_word, read_pair, pair_back}
use Rattle.base_maps.specs.Pages.{IsPage, one_read, one_page}
use Rattle.base_maps.specs.Cuts.{AreBelow, AreAbove, own_pair, IsPlace, IsCutAfter}
use Rattle.base_maps.specs.Parts.{AreInOrder, IsFrontOf, first_key_of, HasSplit}
use Rattle.base_maps.proofs.Within.{put_within, cut_within, find_within, sorted_after, above_first, above_same}

-- what is there isn't nothing
there : (p : (List ℕ × List ℕ) × List ℕ) → ◌≡◌ {A = Read (List ℕ × List ℕ)} None (Some p) → ⊥
there p e = cc

pub no_pair : (bytes : List ℕ) (rows : Rows) → AllByRecursion IsShort rows → bytes ≡ bytes_of_pairs rows
    → ◌≡◌ {A = Read (List ℕ × List ℕ)} None (read_pair bytes) → rows ≡ []
no_pair bytes [] short is none = refl
no_pair bytes (p ∷ rows) short is none =
    absurd (there (p, bytes_of_pairs rows) (none ∙ ap read_pair is ∙ pair_back p (bytes_of_pairs rows) short.0))

-- what is after the first pair
pub record Later (rows : Rows) (p : List ℕ × List ℕ) (rest : List ℕ) : Type 0 where
  pub later : Rows
  pub are : rows ≡ p ∷ later
  pub short : AllByRecursion IsShort later
  pub spelled : rest ≡ bytes_of_pairs later

pub behind_pair : (bytes : List ℕ) (rows : Rows) (p : List ℕ × List ℕ) (rest : List ℕ) → AllByRecursion IsShort rows → bytes ≡ bytes_of_pairs rows
    → ◌≡◌ {A = Read (List ℕ × List ℕ)} (Some (p, rest)) (read_pair bytes) → Later rows p rest
unfolding read_pair read_word read_len
behind_pair bytes [] p rest short is first = absurd (there (p, rest) (sym (first ∙ ap read_pair is)))
behind_pair bytes (q ∷ rows) p rest short is first =
    let same = one_read {A = List ℕ × List ℕ} (p, rest) (q, bytes_of_pairs rows) (first ∙ ap read_pair is ∙ pair_back q (bytes_of_pairs rows) short.0) in
    record { later = rows; are = ap (λ (x : List ℕ × List ℕ). x ∷ rows) (sym same.0); short = short.1; spelled = same.1 }

-- bytes that spell pairs are a page's whose pairs are these
pub page_rows : (bytes : List ℕ) (h : IsPage bytes) (rows : Rows) → AllByRecursion IsShort rows → bytes ≡ bytes_of_pairs rows → h.rows ≡ rows
page_rows bytes h rows short is = one_page h.rows rows h.short short (sym h.spelled ∙ is)

-- where no pair is read, none is left
pub none_left : (bytes : List ℕ) (h : IsPage bytes) → ◌≡◌ {A = Read (List ℕ × List ℕ)} None (read_pair bytes) → h.rows ≡ []
none_left bytes h none = no_pair bytes h.rows h.short h.spelled none

-- the pairs after the first one
pub rest_page : (bytes : List ℕ) (h : IsPage bytes) (p : List ℕ × List ℕ) (rest : List ℕ) → ◌≡◌ {A = Read (List ℕ × List ℕ)} (Some (p, rest)) (read_pair bytes)
    → (k : IsPage rest) × (h.rows ≡ p ∷ k.rows)
rest_page bytes h p rest first =
    let n = behind_pair bytes h.rows p rest h.short h.spelled first in
    (record { rows = n.later; short = n.short; spelled = n.spelled }, n.are)

pub spelled_append : (a b : Rows) → bytes_of_pairs (a ++ b) ≡ bytes_of_pairs a ++ bytes_of_pairs b
spelled_append [] b = refl
spelled_append (p ∷ a) b =
    ap (λ (l : List ℕ). bytes_of_pair p ++ l) (spelled_append a b) ∙ sym (append_assoc (bytes_of_pair p) (bytes_of_pairs a) (bytes_of_pairs b))

one_more : (a : Rows) (p : List ℕ × List ℕ) → bytes_of_pairs (a ++ p ∷ []) ≡ bytes_of_pairs a ++ bytes_of_pair p
one_more a p = spelled_append a (p ∷ []) ∙ ap (λ (l : List ℕ). bytes_of_pairs a ++ l) (append-nil (bytes_of_pair p))

pub short_front : (a b : Rows) → AllByRecursion IsShort (a ++ b) → AllByRecursion IsShort a
short_front [] b short = tt
short_front (p ∷ a) b short = (short.0, short_front a b short.1)

pub short_back : (a b : Rows) → AllByRecursion IsShort (a ++ b) → AllByRecursion IsShort b
short_back [] b short = short
short_back (p ∷ a) b short = short_back a b short.1

pub short_both : (a b : Rows) → AllByRecursion IsShort a → AllByRecursion IsShort b → AllByRecursion IsShort (a ++ b)
short_both [] b x y = y
short_both (p ∷ a) b x y = (x.0, short_both a b x.1 y)

-- each pair has bytes, so pairs without bytes are none
pub no_bytes_no_pairs : (bytes : List ℕ) (rows : Rows) → bytes ≡ bytes_of_pairs rows → eqb (length bytes) 0 ≡ eqb (length rows) 0
no_bytes_no_pairs bytes [] is = ap (λ (l : List ℕ). eqb (length l) 0) is
no_bytes_no_pairs bytes (p ∷ rows) is =
    ap (λ (l : List ℕ). eqb (length l) 0) is ∙ more (length (bytes_of_pairs (p ∷ rows))) (omega arith) ∙ sym (more (length (p ∷ rows)) (omega arith))
  where
    more : (n : ℕ) → 0 < n → eqb n 0 ≡ false
    more n some = grind (arith, nat_tests)

-- ---- the first key

pub front_is : (bytes : List ℕ) (rows : Rows) (p : List ℕ × List ℕ) (rest front : List ℕ) → AllByRecursion IsShort rows → bytes ≡ bytes_of_pairs rows
    → ◌≡◌ {A = Read (List ℕ × List ℕ)} (Some (p, rest)) (read_pair bytes) → front ≡ front_of 16 p.0 → IsFrontOf front rows
front_is bytes rows p rest front short is first of_key =
    let n = behind_pair bytes rows p rest short is first in
    subst (IsFrontOf front) (sym n.are) (sym of_key)

pub front_of_none : (bytes : List ℕ) (rows : Rows) (front : List ℕ) → AllByRecursion IsShort rows → bytes ≡ bytes_of_pairs rows
    → ◌≡◌ {A = Read (List ℕ × List ℕ)} None (read_pair bytes) → IsFrontOf front rows
front_of_none bytes rows front short is none = subst (IsFrontOf front) (sym (no_pair bytes rows short is none)) tt

pub front_of_part : (a b : Rows) (front : List ℕ) → IsFrontOf front (a ++ b) → 0 < length a → IsFrontOf front a
front_of_part [] b front is some = tt
front_of_part (p ∷ a) b front is some = is

pub first_is : (bytes : List ℕ) (rows : Rows) (p : List ℕ × List ℕ) (rest : List ℕ) → AllByRecursion IsShort rows → bytes ≡ bytes_of_pairs rows
    → ◌≡◌ {A = Read (List ℕ × List ℕ)} (Some (p, rest)) (read_pair bytes) → first_key_of rows ≡ Some p.0
first_is bytes rows p rest short is first = ap first_key_of (behind_pair bytes rows p rest short is first).are

-- ---- a walk over the pairs

-- the pairs before some bytes, of which something holds, and the pairs of these bytes
pub record Walked (Past : Rows → Type 0) (rows : Rows) (bytes rest : List ℕ) : Type 0 where
  pub before : Rows
  pub left : Rows
  pub parts : rows ≡ before ++ left
  pub past : Past before
  pub short : AllByRecursion IsShort rows
  pub front : bytes ≡ bytes_of_pairs before ++ rest
  pub rest_is : rest ≡ bytes_of_pairs left

left_short : (Past : Rows → Type 0) (rows : Rows) (bytes rest : List ℕ) (w : Walked Past rows bytes rest) → AllByRecursion IsShort w.left
left_short Past rows bytes rest w = short_back w.before w.left (subst (AllByRecursion IsShort) w.parts w.short)

-- the first pair of those that are left
next_pair : (Past : Rows → Type 0) (rows : Rows) (bytes rest : List ℕ) (w : Walked Past rows bytes rest) (p : List ℕ × List ℕ) (behind : List ℕ)
    → ◌≡◌ {A = Read (List ℕ × List ℕ)} (Some (p, behind)) (read_pair rest) → Later w.left p behind
next_pair Past rows bytes rest w p behind first = behind_pair rest w.left p behind (left_short Past rows bytes rest w) w.rest_is first

pub walk_begun : (Past : Rows → Type 0) (rows : Rows) (bytes : List ℕ) → Past [] → AllByRecursion IsShort rows → bytes ≡ bytes_of_pairs rows → Walked Past rows bytes bytes
walk_begun Past rows bytes past short is = record { before = []; left = rows; parts = refl; past = past; short = short; front = refl; rest_is = is }

pub walk_more : (Past Now : Rows → Type 0) (rows : Rows) (bytes rest : List ℕ) (w : Walked Past rows bytes rest) (p : List ℕ × List ℕ) (behind : List ℕ)
    → ◌≡◌ {A = Read (List ℕ × List ℕ)} (Some (p, behind)) (read_pair rest) → ((a : Rows) → Past a → Now (a ++ p ∷ [])) → Walked Now rows bytes behind
walk_more Past Now rows bytes rest w p behind first next =
    let n = next_pair Past rows bytes rest w p behind first in
    let here : rest ≡ bytes_of_pair p ++ behind = w.rest_is ∙ ap bytes_of_pairs n.are ∙ ap (λ (l : List ℕ). bytes_of_pair p ++ l) (sym n.spelled) in
    record {
      before = w.before ++ p ∷ [];
      left = n.later;
      parts = w.parts ∙ ap (λ (l : Rows). w.before ++ l) n.are ∙ sym (append_assoc w.before (p ∷ []) n.later);
      past = next w.before w.past;
      short = w.short;
      front = w.front ∙ ap (λ (l : List ℕ). bytes_of_pairs w.before ++ l) here ∙ sym (append_assoc (bytes_of_pairs w.before) (bytes_of_pair p) behind)
          ∙ ap (λ (l : List ℕ). l ++ behind) (sym (one_more w.before p));
      rest_is = n.spelled;
    }

pub walk_fits : (Past : Rows → Type 0) (rows : Rows) (bytes rest : List ℕ) → Walked Past rows bytes rest → length rest ≤ length bytes
walk_fits Past rows bytes rest w = omega (arith, ap length w.front, length-append (bytes_of_pairs w.before) rest)

walk_front : (Past : Rows → Type 0) (rows : Rows) (bytes rest : List ℕ) (w : Walked Past rows bytes rest) (front : List ℕ) → front ≡ take (length bytes - length rest) bytes
    → front ≡ bytes_of_pairs w.before
walk_front Past rows bytes rest w front is =
    let f = bytes_of_pairs w.before in
    let len : length bytes - length rest ≡ length f = omega (arith, ap length w.front, length-append f rest) in
    is ∙ ap (λ (k : ℕ). take k bytes) len ∙ ap (λ (l : List ℕ). take (length f) l) w.front ∙ take-append_seam f rest

-- what is left after a pair is shorter
pub walk_shorter : (Past : Rows → Type 0) (rows : Rows) (bytes rest : List ℕ) (w : Walked Past rows bytes rest) (p : List ℕ × List ℕ) (behind : List ℕ)
    → ◌≡◌ {A = Read (List ℕ × List ℕ)} (Some (p, behind)) (read_pair rest) → length behind < length rest
walk_shorter Past rows bytes rest w p behind first =
    let n = next_pair Past rows bytes rest w p behind first in
    let here : rest ≡ bytes_of_pair p ++ behind = w.rest_is ∙ ap bytes_of_pairs n.are ∙ ap (λ (l : List ℕ). bytes_of_pair p ++ l) (sym n.spelled) in
    omega (arith, ap length here, length-append (bytes_of_pair p) behind, some_bytes p)
  where
    some_bytes : (p : List ℕ × List ℕ) → 0 < length (bytes_of_pair p)
    some_bytes p = omega arith

-- ---- where a key is

below_more : (key : List ℕ) (a : Rows) (p : List ℕ × List ℕ) → byte_order key p.0 ≡ Greater → AreBelow key a → AreBelow key (a ++ p ∷ [])
below_more key [] p high below = (high, tt)
below_more key (q ∷ a) p high below = (below.0, below_more key a p high below.1)

-- keys that compare as equal are the same
same_byte : (x y : ℕ) (r s : Ordering) → MatchOrdering r (x < y) (x ≡ y) (y < x) → ordering_then r s ≡ Equal → (x ≡ y) × (s ≡ Equal)
same_byte x y Less s is e = absurd (no e) where
  no : Less ≡ Equal → ⊥
  no e = cc
same_byte x y Equal s is e = (is, e)
same_byte x y Greater s is e = absurd (no e) where
  no : Greater ≡ Equal → ⊥
  no e = cc

pub same_key : (xs ys : List ℕ) → byte_order xs ys ≡ Equal → xs ≡ ys
same_key [] [] e = refl
same_key [] (y ∷ ys) e = absurd (no e) where
  no : Less ≡ Equal → ⊥
  no e = cc
same_key (x ∷ xs) [] e = absurd (no e) where
  no : Greater ≡ Equal → ⊥
  no e = cc
same_key (x ∷ xs) (y ∷ ys) e =
    let both = same_byte x y (nat_cmp x y) (byte_order xs ys) (ranks x y) e in
    ap (λ (b : ℕ). b ∷ xs) both.0 ∙ ap (λ (l : List ℕ). y ∷ l) (same_key xs ys both.1)

pub search_begun : (key : List ℕ) (rows : Rows) (bytes : List ℕ) → AllByRecursion IsShort rows → bytes ≡ bytes_of_pairs rows → Walked (AreBelow key) rows bytes bytes
search_begun key rows bytes short is = walk_begun (AreBelow key) rows bytes tt short is

pub search_more : (key : List ℕ) (rows : Rows) (bytes rest : List ℕ) (w : Walked (AreBelow key) rows bytes rest) (p : List ℕ × List ℕ) (behind : List ℕ)
    → ◌≡◌ {A = Read (List ℕ × List ℕ)} (Some (p, behind)) (read_pair rest) → byte_order key p.0 ≡ Greater → Walked (AreBelow key) rows bytes behind
search_more key rows bytes rest w p behind first high =
    walk_more (AreBelow key) (AreBelow key) rows bytes rest w p behind first (λ a below. below_more key a p high below)

left_sorted : (rows before left : Rows) (p : List ℕ × List ℕ) (later : Rows) → AreInOrder rows → rows ≡ before ++ left → left ≡ p ∷ later → AreInOrder (p ∷ later)
left_sorted rows before left p later order parts are =
    subst AreInOrder are (sorted_after byte_order nat_list_cmp_total before left (subst AreInOrder parts order))

pub place_below : (key : List ℕ) (rows : Rows) (bytes rest : List ℕ) (w : Walked (AreBelow key) rows bytes rest) (p : List ℕ × List ℕ) (behind : List ℕ)
    → ◌≡◌ {A = Read (List ℕ × List ℕ)} (Some (p, behind)) (read_pair rest) → AreInOrder rows → byte_order key p.0 ≡ Less
    → (front : List ℕ) → front ≡ take (length bytes - length rest) bytes → IsPlace key rows front None rest
place_below key rows bytes rest w p behind first order less front front_is =
    let n = next_pair (AreBelow key) rows bytes rest w p behind first in
    record {
      before = w.before;
      after = w.left;
      parts = w.parts;
      short = w.short;
      below = w.past;
      above = subst (AreAbove key) (sym n.are) (above_first byte_order nat_list_cmp_total p n.later key (left_sorted rows w.before w.left p n.later order w.parts n.are) less);
      front_is = walk_front (AreBelow key) rows bytes rest w front front_is;
      back_is = w.rest_is;
    }

pub place_same : (key : List ℕ) (rows : Rows) (bytes rest : List ℕ) (w : Walked (AreBelow key) rows bytes rest) (p : List ℕ × List ℕ) (behind : List ℕ)
    → ◌≡◌ {A = Read (List ℕ × List ℕ)} (Some (p, behind)) (read_pair rest) → AreInOrder rows → byte_order key p.0 ≡ Equal
    → (front : List ℕ) → front ≡ take (length bytes - length rest) bytes → IsPlace key rows front (Some p.1) behind
place_same key rows bytes rest w p behind first order same front front_is =
    let n = next_pair (AreBelow key) rows bytes rest w p behind first in
    record {
      before = w.before;
      after = n.later;
      short = w.short;
      parts = w.parts ∙ ap (λ (l : Rows). w.before ++ l) n.are ∙ ap (λ (k : List ℕ). w.before ++ (k, p.1) ∷ n.later) (sym (same_key key p.0 same));
      below = w.past;
      above = above_same byte_order nat_list_cmp_total p n.later key (left_sorted rows w.before w.left p n.later order w.parts n.are) same;
      front_is = walk_front (AreBelow key) rows bytes rest w front front_is;
      back_is = n.spelled;
    }

pub place_after : (key : List ℕ) (rows : Rows) (bytes rest : List ℕ) (w : Walked (AreBelow key) rows bytes rest)
    → ◌≡◌ {A = Read (List ℕ × List ℕ)} None (read_pair rest) → IsPlace key rows bytes None rest
place_after key rows bytes rest w none =
    let gone = no_pair rest w.left (left_short (AreBelow key) rows bytes rest w) w.rest_is none in
    let no_rest : rest ≡ [] = w.rest_is ∙ ap bytes_of_pairs gone in
    record {
      before = w.before;
      after = [];
      parts = w.parts ∙ ap (λ (l : Rows). w.before ++ l) gone;
      short = w.short;
      below = w.past;
      above = tt;
      front_is = w.front ∙ ap (λ (l : List ℕ). bytes_of_pairs w.before ++ l) no_rest ∙ append-nil (bytes_of_pairs w.before);
      back_is = no_rest;
    }

-- ---- where pairs are cut

abbrev pub AreSome : Rows → Type 0
AreSome rows = 0 < length rows

pub cut_begun : (rows : Rows) (bytes : List ℕ) (p : List ℕ × List ℕ) (rest : List ℕ) → AllByRecursion IsShort rows → bytes ≡ bytes_of_pairs rows
    → ◌≡◌ {A = Read (List ℕ × List ℕ)} (Some (p, rest)) (read_pair bytes) → Walked AreSome rows bytes rest
cut_begun rows bytes p rest short is first =
    walk_more (λ a. Unit {0}) AreSome rows bytes bytes (walk_begun (λ a. Unit {0}) rows bytes tt short is) p rest first (λ a past. omega (arith, length-append a (p ∷ [])))

pub cut_more : (rows : Rows) (bytes rest : List ℕ) (w : Walked AreSome rows bytes rest) (p : List ℕ × List ℕ) (behind : List ℕ)
    → ◌≡◌ {A = Read (List ℕ × List ℕ)} (Some (p, behind)) (read_pair rest) → Walked AreSome rows bytes behind
cut_more rows bytes rest w p behind first =
    walk_more AreSome AreSome rows bytes rest w p behind first (λ a past. omega (arith, length-append a (p ∷ [])))

pub cut_made : (rows : Rows) (bytes rest : List ℕ) (w : Walked AreSome rows bytes rest) (p : List ℕ × List ℕ) (behind : List ℕ)
    → ◌≡◌ {A = Read (List ℕ × List ℕ)} (Some (p, behind)) (read_pair rest) → IsCutAfter rows (length bytes - length rest)
cut_made rows bytes rest w p behind first =
    let n = next_pair AreSome rows bytes rest w p behind first in
    record {
      before = w.before;
      after = w.left;
      parts = w.parts;
      some = w.past;
      others = omega (arith, ap length n.are);
      at_is = omega (arith, ap length w.front, length-append (bytes_of_pairs w.before) rest);
    }

-- ---- a pair that is put at its key's place

put_own : (key v : List ℕ) (value : Option (List ℕ)) → insert_entry byte_order (own_pair key value) key v ≡ (key, v) ∷ []
put_own key v None = refl
put_own key v (Some w) = rw (tied_itself nat_list_cmp_total key) refl

pub put_rows : (key v : List ℕ) (rows : Rows) (front : List ℕ) (value : Option (List ℕ)) (back : List ℕ) (h : IsPlace key rows front value back)
    → h.before ++ (key, v) ∷ h.after ≡ insert_entry byte_order rows key v
put_rows key v rows front value back h =
    sym (
    ap (λ (l : Rows). insert_entry byte_order l key v) h.parts
    ∙ put_within byte_order nat_list_cmp_total h.before (own_pair key value) h.after key v h.below h.above
    ∙ ap (λ (l : Rows). h.before ++ (l ++ h.after)) (put_own key v value)
    )

pub put_short : (key v : List ℕ) (rows : Rows) (front : List ℕ) (value : Option (List ℕ)) (back : List ℕ) (h : IsPlace key rows front value back)
    → IsShort (key, v) → AllByRecursion IsShort (h.before ++ (key, v) ∷ h.after)
put_short key v rows front value back h one =
    let all = subst (AllByRecursion IsShort) h.parts h.short in
    let later = short_back (own_pair key value) h.after (short_back h.before (own_pair key value ++ h.after) all) in
    short_both h.before ((key, v) ∷ h.after) (short_front h.before (own_pair key value ++ h.after) all) (one, later)

pub put_spelled : (key v : List ℕ) (rows : Rows) (front : List ℕ) (value : Option (List ℕ)) (back : List ℕ) (h : IsPlace key rows front value back)
    (made : List ℕ) → made ≡ front ++ (bytes_of_pair (key, v) ++ back) → made ≡ bytes_of_pairs (h.before ++ (key, v) ∷ h.after)
put_spelled key v rows front value back h made is =
    is ∙ ap (λ (l : List ℕ). l ++ (bytes_of_pair (key, v) ++ back)) h.front_is
    ∙ ap (λ (l : List ℕ). bytes_of_pairs h.before ++ (bytes_of_pair (key, v) ++ l)) h.back_is
    ∙ sym (spelled_append h.before ((key, v) ∷ h.after))

-- the page of these bytes
pub put_page : (key v : List ℕ) (rows : Rows) (front : List ℕ) (value : Option (List ℕ)) (back : List ℕ) (h : IsPlace key rows front value back)
    → IsShort (key, v) → (made : List ℕ) → made ≡ front ++ (bytes_of_pair (key, v) ++ back) → IsPage made
put_page key v rows front value back h one made is = record {
  rows = h.before ++ (key, v) ∷ h.after;
  short = put_short key v rows front value back h one;
  spelled = put_spelled key v rows front value back h made is;
}

-- its pairs
pub put_made : (key v : List ℕ) (rows : Rows) (front : List ℕ) (value : Option (List ℕ)) (back : List ℕ) (h : IsPlace key rows front value back)
    → IsShort (key, v) → (made : List ℕ) → made ≡ front ++ (bytes_of_pair (key, v) ++ back)
    → (now : Rows) → AllByRecursion IsShort now → made ≡ bytes_of_pairs now → now ≡ h.before ++ (key, v) ∷ h.after
put_made key v rows front value back h one made is now now_short now_is =
    one_page now (h.before ++ (key, v) ∷ h.after) now_short (put_short key v rows front value back h one)
    (sym now_is ∙ put_spelled key v rows front value back h made is)

-- whether there is one more
pub none_copied : (o : Option (Bor (List ℕ))) (none : Bool) → is_some o ≡ not none → none ≡ is_none (option_copied o)
none_copied None true is = refl
none_copied None false is = absurd (true≢false (sym is))
none_copied (Some x) true is = absurd (true≢false is)
none_copied (Some x) false is = refl

pub put_count : (key v : List ℕ) (rows : Rows) (front : List ℕ) (value : Option (List ℕ)) (back : List ℕ) (h : IsPlace key rows front value back)
    (added : Bool) → added ≡ is_none value → length (h.before ++ (key, v) ∷ h.after) ≡ length rows + cond added 1 0
put_count key v rows front None back h added is =
    rw is (omega (arith, ap length h.parts, length-append h.before h.after, length-append h.before ((key, v) ∷ h.after)))
put_count key v rows front (Some w) back h added is =
    rw is (omega (arith, ap length h.parts, length-append h.before ((key, w) ∷ h.after), length-append h.before ((key, v) ∷ h.after)))

-- ---- a look-up

found_own : (key : List ℕ) (value : Option (List ℕ)) → lookup (is_at (byte_order key)) (own_pair key value) ≡ value
found_own key None = refl
found_own key (Some w) = rw (tied_itself nat_list_cmp_total key) refl

pub place_found : (key : List ℕ) (rows : Rows) (front : List ℕ) (value : Option (List ℕ)) (back : List ℕ) → IsPlace key rows front value back
    → value ≡ row_at rows key
place_found key rows front value back h =
    sym (
    ap (lookup (is_at (byte_order key))) h.parts
    ∙ find_within byte_order nat_list_cmp_total h.before (own_pair key value) h.after key h.below h.above
    ∙ found_own key value
    )

-- ---- a removal

cut_own : (key : List ℕ) (value : Option (List ℕ)) → remove_entry (is_at (byte_order key)) (own_pair key value) ≡ []
cut_own key None = refl
cut_own key (Some w) = rw (tied_itself nat_list_cmp_total key) refl

pub cut_rows : (key : List ℕ) (rows : Rows) (front : List ℕ) (value : Option (List ℕ)) (back : List ℕ) (h : IsPlace key rows front value back)
    → h.before ++ h.after ≡ remove_entry (is_at (byte_order key)) rows
cut_rows key rows front value back h =
    sym (
    ap (remove_entry (is_at (byte_order key))) h.parts
    ∙ cut_within byte_order nat_list_cmp_total h.before (own_pair key value) h.after key h.below h.above
    ∙ ap (λ (l : Rows). h.before ++ (l ++ h.after)) (cut_own key value)
    )

pub cut_short : (key : List ℕ) (rows : Rows) (front : List ℕ) (value : Option (List ℕ)) (back : List ℕ) (h : IsPlace key rows front value back)
    → AllByRecursion IsShort (h.before ++ h.after)
cut_short key rows front value back h =
    let all = subst (AllByRecursion IsShort) h.parts h.short in
    short_both h.before h.after (short_front h.before (own_pair key value ++ h.after) all)
    (short_back (own_pair key value) h.after (short_back h.before (own_pair key value ++ h.after) all))

-- the page of the bytes that are left
pub cut_page : (key : List ℕ) (rows : Rows) (front : List ℕ) (value : Option (List ℕ)) (back : List ℕ) (h : IsPlace key rows front value back)
    → (now : List ℕ) → now ≡ bytes_of_pairs (h.before ++ h.after) → IsPage now
cut_page key rows front value back h now is = record { rows = h.before ++ h.after; short = cut_short key rows front value back h; spelled = is }

pub cut_none : (key : List ℕ) (rows : Rows) (front : List ℕ) (value : Option (List ℕ)) (back : List ℕ) → IsPlace key rows front value back
    → is_none value ≡ true → rows ≡ remove_entry (is_at (byte_order key)) rows
cut_none key rows front None back h none = h.parts ∙ cut_rows key rows front None back h
cut_none key rows front (Some w) back h none = absurd (true≢false (sym none))

pub cut_count : (key : List ℕ) (rows : Rows) (front : List ℕ) (value : Option (List ℕ)) (back : List ℕ) (h : IsPlace key rows front value back)
    → is_none value ≡ false → length (h.before ++ h.after) + 1 ≡ length rows
cut_count key rows front None back h some = absurd (true≢false some)
cut_count key rows front (Some w) back h some =
    omega (arith, ap length h.parts, length-append h.before ((key, w) ∷ h.after), length-append h.before h.after)

-- the bytes: those before the key, its own, and those after it
pub place_spelled : (key : List ℕ) (rows : Rows) (front : List ℕ) (value : Option (List ℕ)) (back : List ℕ) → IsPlace key rows front value back
    → bytes_of_pairs rows ≡ front ++ (bytes_of_pairs (own_pair key value) ++ back)
place_spelled key rows front value back h =
    ap bytes_of_pairs h.parts ∙ spelled_append h.before (own_pair key value ++ h.after)
    ∙ ap (λ (l : List ℕ). bytes_of_pairs h.before ++ l) (spelled_append (own_pair key value) h.after)
    ∙ ap (λ (l : List ℕ). l ++ (bytes_of_pairs (own_pair key value) ++ bytes_of_pairs h.after)) (sym h.front_is)
    ∙ ap (λ (l : List ℕ). front ++ (bytes_of_pairs (own_pair key value) ++ l)) (sym h.back_is)

pub place_fits : (key : List ℕ) (rows : Rows) (front : List ℕ) (value : Option (List ℕ)) (back : List ℕ) → IsPlace key rows front value back
    → (bytes : List ℕ) → bytes ≡ bytes_of_pairs rows → length front + length back ≤ length bytes
place_fits key rows front value back h bytes is =
    let own = bytes_of_pairs (own_pair key value) in
    omega (arith, ap length (is ∙ place_spelled key rows front value back h), length-append front (own ++ back), length-append own back)

ends_kept : (f s b : List ℕ) → take (length f) (f ++ (s ++ b)) ++ drop (length (f ++ (s ++ b)) - length b) (f ++ (s ++ b)) ≡ f ++ b
ends_kept f s b =
    let len : length (f ++ (s ++ b)) - length b ≡ length (f ++ s) = omega (arith, length-append f (s ++ b), length-append s b, length-append f s) in
    let end : drop (length (f ++ (s ++ b)) - length b) (f ++ (s ++ b)) ≡ b =
    ap (λ (n : ℕ). drop n (f ++ (s ++ b))) len ∙ ap (λ (l : List ℕ). drop (length (f ++ s)) l) (sym (append_assoc f s b)) ∙ drop-append_seam (f ++ s) b in
    ap (λ (l : List ℕ). l ++ drop (length (f ++ (s ++ b)) - length b) (f ++ (s ++ b))) (take-append_seam f (s ++ b)) ∙ ap (λ (l : List ℕ). f ++ l) end

pub cut_spelled : (key : List ℕ) (rows : Rows) (front : List ℕ) (value : Option (List ℕ)) (back : List ℕ) (h : IsPlace key rows front value back)
    → (bytes now : List ℕ) (m n : ℕ) → bytes ≡ bytes_of_pairs rows → m ≡ length front → n ≡ length back → now ≡ take m bytes ++ drop (length bytes - n) bytes
    → now ≡ bytes_of_pairs (h.before ++ h.after)
cut_spelled key rows front value back h bytes now m n is m_is n_is now_is =
    let all = is ∙ place_spelled key rows front value back h in
    now_is ∙ ap (λ (k : ℕ). take k bytes ++ drop (length bytes - n) bytes) m_is
    ∙ ap (λ (k : ℕ). take (length front) bytes ++ drop (length bytes - k) bytes) n_is
    ∙ ap (λ (l : List ℕ). take (length front) l ++ drop (length l - length back) l) all
    ∙ ends_kept front (bytes_of_pairs (own_pair key value)) back
    ∙ ap (λ (l : List ℕ). l ++ back) h.front_is ∙ ap (λ (l : List ℕ). bytes_of_pairs h.before ++ l) h.back_is ∙ sym (spelled_append h.before h.after)

-- ---- a split

pub split_spelled : (rows : Rows) (at : ℕ) (h : IsCutAfter rows at) (bytes : List ℕ) → bytes ≡ bytes_of_pairs rows
    → bytes ≡ bytes_of_pairs h.before ++ bytes_of_pairs h.after
split_spelled rows at h bytes is = is ∙ ap bytes_of_pairs h.parts ∙ spelled_append h.before h.after

pub split_fits : (rows : Rows) (at : ℕ) (h : IsCutAfter rows at) (bytes : List ℕ) → bytes ≡ bytes_of_pairs rows → at ≤ length bytes
split_fits rows at h bytes is =
    omega (arith, h.at_is, ap length (split_spelled rows at h bytes is), length-append (bytes_of_pairs h.before) (bytes_of_pairs h.after))

pub split_low : (rows : Rows) (at : ℕ) (h : IsCutAfter rows at) (bytes : List ℕ) → bytes ≡ bytes_of_pairs rows → take at bytes ≡ bytes_of_pairs h.before
split_low rows at h bytes is =
    ap (λ (n : ℕ). take n bytes) h.at_is ∙ ap (λ (l : List ℕ). take (length (bytes_of_pairs h.before)) l) (split_spelled rows at h bytes is)
    ∙ take-append_seam (bytes_of_pairs h.before) (bytes_of_pairs h.after)

pub split_high : (rows : Rows) (at : ℕ) (h : IsCutAfter rows at) (bytes : List ℕ) → bytes ≡ bytes_of_pairs rows → drop at bytes ≡ bytes_of_pairs h.after
split_high rows at h bytes is =
    ap (λ (n : ℕ). drop n bytes) h.at_is ∙ ap (λ (l : List ℕ). drop (length (bytes_of_pairs h.before)) l) (split_spelled rows at h bytes is)
    ∙ drop-append_seam (bytes_of_pairs h.before) (bytes_of_pairs h.after)

-- the page of the pairs after the cut
pub high_page : (rows : Rows) (at : ℕ) (h : IsCutAfter rows at) (bytes now : List ℕ) → AllByRecursion IsShort rows → bytes ≡ bytes_of_pairs rows → now ≡ drop at bytes → IsPage now
high_page rows at h bytes now short is now_is = record {
  rows = h.after;
  short = short_back h.before h.after (subst (AllByRecursion IsShort) h.parts short);
  spelled = now_is ∙ split_high rows at h bytes is;
}

abbrev pub low_page : (rows : Rows) (at : ℕ) (h : IsCutAfter rows at) (bytes now : List ℕ) → AllByRecursion IsShort rows → bytes ≡ bytes_of_pairs rows → now ≡ take at bytes → IsPage now
low_page rows at h bytes now short is now_is = record {
  rows = h.before;
  short = short_front h.before h.after (subst (AllByRecursion IsShort) h.parts short);
  spelled = now_is ∙ split_low rows at h bytes is;
}

-- their pairs
pub low_rows : (rows : Rows) (at : ℕ) (h : IsCutAfter rows at) (bytes now : List ℕ) → AllByRecursion IsShort rows → bytes ≡ bytes_of_pairs rows → now ≡ take at bytes
    → (k : IsPage now) → k.rows ≡ h.before
low_rows rows at h bytes now short is now_is k =
    let own = low_page rows at h bytes now short is now_is in
    page_rows now k own.rows own.short own.spelled

pub high_rows : (rows : Rows) (at : ℕ) (h : IsCutAfter rows at) (bytes now : List ℕ) → AllByRecursion IsShort rows → bytes ≡ bytes_of_pairs rows → now ≡ drop at bytes
    → (k : Rows) → AllByRecursion IsShort k → now ≡ bytes_of_pairs k → k ≡ h.after
high_rows rows at h bytes now short is now_is k k_short k_is =
    one_page k h.after k_short (short_back h.before h.after (subst (AllByRecursion IsShort) h.parts short)) (sym k_is ∙ now_is ∙ split_high rows at h bytes is)

pub has_split : (rows : Rows) (at : ℕ) (h : IsCutAfter rows at) (low high : Rows) → low ≡ h.before → high ≡ h.after → HasSplit rows low (Some high)
has_split rows at h low high low_is high_is = (
  h.parts ∙ ap (λ (l : Rows). l ++ h.after) (sym low_is) ∙ ap (λ (l : Rows). low ++ l) (sym high_is),
  (omega (arith, h.some, ap length low_is), omega (arith, h.others, ap length high_is)),
)
