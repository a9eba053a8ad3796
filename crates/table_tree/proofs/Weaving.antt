-- The chains of a page around one of its entries, around a page below it, and around the place where it is split.
use Rattle.std.proofs.Common.{◌≡◌, ℕ, zero, suc, ◌<◌, List, [], ◌∷◌, ◌++◌, length, take, drop, get_or, refl, sym, ap, ◌∙◌, arith, append_assoc}
use Rattle.std.proofs.lemmas.List.{append-nil}
use Rattle.table_nodes.specs.Chains.{Chain}
use Rattle.table_tree.specs.Pages.{Branch, woven}

module _ {X : Type 0} where
  -- an element, and what is on each side of it
  pub around : (xs : List X) (i : ℕ) (d : X) → i < length xs → take i xs ++ get_or xs i d ∷ drop (suc i) xs ≡ xs
  around [] i d less = absurd (omega (arith, less))
  around (x ∷ xs) zero d less = refl
  around (x ∷ xs) (suc i) d less = ap (λ (l : List X). x ∷ l) (around xs i d (omega (arith, less)))

-- what is on the left of entry number `length front`, in the page below it too
abbrev pub left_of : List Branch → List Chain → List Chain
left_of [] front = front
left_of (b ∷ below) [] = b.chains
left_of (b ∷ below) (e ∷ front) = b.chains ++ e ∷ left_of below front

-- the chains of pages with the entry after each
abbrev pub before : List Branch → List Chain → List Chain
before [] front = []
before (b ∷ below) [] = []
before (b ∷ below) (e ∷ front) = b.chains ++ e ∷ before below front

-- the chains of entries with the page after each
abbrev pub after : List Chain → List Branch → List Chain
after [] below = []
after (e ∷ back) below = e ∷ woven below back

-- around an entry
pub woven_entry : (below : List Branch) (front : List Chain) (c : Chain) (back : List Chain)
    → woven below (front ++ c ∷ back) ≡ left_of below front ++ c ∷ woven (drop (suc (length front)) below) back
woven_entry [] [] c back = refl
woven_entry [] (e ∷ front) c back = ap (λ (l : List Chain). e ∷ l) (woven_entry [] front c back)
woven_entry (b ∷ below) [] c back = refl
woven_entry (b ∷ below) (e ∷ front) c back =
    ap (λ (l : List Chain). b.chains ++ e ∷ l) (woven_entry below front c back)
    ∙ sym (append_assoc b.chains (e ∷ left_of below front) (c ∷ woven (drop (suc (length front)) below) back))

-- around a page below
pub woven_page : (bs : List Branch) (front : List Chain) (b : Branch) (cs : List Branch) (back : List Chain) → length bs ≡ length front
    → woven (bs ++ b ∷ cs) (front ++ back) ≡ before bs front ++ (b.chains ++ after back cs)
woven_page [] [] b cs [] same = sym (append-nil b.chains)
woven_page [] [] b cs (e ∷ back) same = refl
woven_page [] (e ∷ front) b cs back same = absurd (omega (arith, same))
woven_page (a ∷ bs) [] b cs back same = absurd (omega (arith, same))
woven_page (a ∷ bs) (e ∷ front) b cs back same =
    ap (λ (l : List Chain). a.chains ++ e ∷ l) (woven_page bs front b cs back (omega (arith, same)))
    ∙ sym (append_assoc a.chains (e ∷ before bs front) (b.chains ++ after back cs))

-- a page that is split: its lower part, the entry in the middle, and its upper part
pub woven_split : (ks : List Branch) (front : List Chain) (m : Chain) (ls : List Branch) (back : List Chain) → length ks ≡ suc (length front)
    → woven (ks ++ ls) (front ++ m ∷ back) ≡ woven ks front ++ m ∷ woven ls back
woven_split [] front m ls back same = absurd (omega (arith, same))
woven_split (k ∷ []) [] m ls back same = refl
woven_split (k ∷ j ∷ ks) [] m ls back same = absurd (omega (arith, same))
woven_split (k ∷ ks) (e ∷ front) m ls back same =
    ap (λ (l : List Chain). k.chains ++ e ∷ l) (woven_split ks front m ls back (omega (arith, same)))
    ∙ sym (append_assoc k.chains (e ∷ woven ks front) (m ∷ woven ls back))

-- two pages and the entry between them, in place of a page with the same chains
pub woven_two : (bs : List Branch) (front : List Chain) (b low high : Branch) (m : Chain) (cs : List Branch) (back : List Chain) → length bs ≡ length front
    → b.chains ≡ low.chains ++ m ∷ high.chains
    → woven (bs ++ low ∷ high ∷ cs) (front ++ m ∷ back) ≡ woven (bs ++ b ∷ cs) (front ++ back)
woven_two bs front b low high m cs back same parts =
    let upper : woven (high ∷ cs) back ≡ high.chains ++ after back cs = woven_page [] [] high cs back refl in
    woven_page bs front low (high ∷ cs) (m ∷ back) same
    ∙ ap (λ (l : List Chain). before bs front ++ (low.chains ++ m ∷ l)) upper
    ∙ ap (λ (l : List Chain). before bs front ++ l) (sym (append_assoc low.chains (m ∷ high.chains) (after back cs)))
    ∙ ap (λ (l : List Chain). before bs front ++ (l ++ after back cs)) (sym parts)
    ∙ sym (woven_page bs front b cs back same)
