-- Fragments that come one after another.
use Rattle.std.proofs.Common.{Option, ◌≡◌, ◌⊎◌, inl, inr, ⊎_elim, ℕ, suc, ◌+◌, List, [], ◌∷◌, ◌++◌, length, map, replicate, refl, sym, ◌∙◌, ap, subst, arith, length-append, append_assoc, add-zero}
use Rattle.std.proofs.Math.ListN.{length-replicate}
use Rattle.std.specs.List.{AllByRecursion}
use Rattle.model_base.specs.Log.{header_len, Kind, full, first, middle, last, Fragment, fragment_bytes, trailer, next_place, fragments_text, FitFrom, GoesToLast, AreOneRecord, kinds_of}
use Rattle.model_base.specs.Reading.{end_of, AreBegun}
use Rattle.log_laws.proofs.Next.{fragment_len}

pub length_map : {A B : Type 0} (f : A → B) (xs : List A) → length (map f xs) ≡ length xs
length_map f [] = refl
length_map f (x ∷ xs) = ap (λ (n : ℕ). suc n) (length_map f xs)

-- the offset after a fragment, from which the next one is looked for
abbrev pub behind : (number : Option ℕ) → ℕ → Fragment → ℕ
behind number offset f = next_place number offset + (header_len number) + length f.part

pub end_none : (number : Option ℕ) → (offset : ℕ) → end_of number offset [] ≡ offset
end_none number offset = add-zero offset

pub end_more : (number : Option ℕ) → (offset : ℕ) (f : Fragment) (fs : List Fragment) → end_of number offset (f ∷ fs) ≡ end_of number (behind number offset f) fs
end_more number offset f fs =
    omega (arith, length-append (replicate (trailer number offset) 0 ++ fragment_bytes number f) (fragments_text number (behind number offset f) fs), length-append (replicate (trailer number offset) 0) (fragment_bytes number f), length-replicate {A = ℕ} (trailer number offset) 0, fragment_len number f)

pub placed_append : (number : Option ℕ) → (offset : ℕ) (xs ys : List Fragment) → fragments_text number offset (xs ++ ys) ≡ fragments_text number offset xs ++ fragments_text number (end_of number offset xs) ys
placed_append number offset [] ys = ap (λ (n : ℕ). fragments_text number n ys) (sym (end_none number offset))
placed_append number offset (x ∷ xs) ys =
    ap (λ (l : List ℕ). (replicate (trailer number offset) 0 ++ fragment_bytes number x) ++ l) (placed_append number (behind number offset x) xs ys ∙ ap (λ (n : ℕ). fragments_text number (behind number offset x) xs ++ fragments_text number n ys) (sym (end_more number offset x xs)))
    ∙ sym (append_assoc (replicate (trailer number offset) 0 ++ fragment_bytes number x) (fragments_text number (behind number offset x) xs) (fragments_text number (end_of number offset (x ∷ xs)) ys))

pub fit_front : (number : Option ℕ) → (offset : ℕ) (xs ys : List Fragment) → FitFrom number offset (xs ++ ys) → FitFrom number offset xs
fit_front number offset [] ys fit = tt
fit_front number offset (x ∷ xs) ys fit = (fit.0, fit_front number (behind number offset x) xs ys fit.1)

pub fit_back : (number : Option ℕ) → (offset : ℕ) (xs ys : List Fragment) → FitFrom number offset (xs ++ ys) → FitFrom number (end_of number offset xs) ys
fit_back number offset [] ys fit = subst (λ n. FitFrom number n ys) (sym (end_none number offset)) fit
fit_back number offset (x ∷ xs) ys fit = subst (λ n. FitFrom number n ys) (sym (end_more number offset x xs)) (fit_back number (behind number offset x) xs ys fit.1)

-- where two joined lists are split, the split is in the one or in the other
pub split_joined : {A : Type 0} (xs ys front back : List A) (z : A) → xs ++ ys ≡ front ++ z ∷ back
    → ((p : List A) × (front ≡ xs ++ p) × (ys ≡ p ++ z ∷ back)) ⊎ ((q : List A) × (xs ≡ front ++ z ∷ q))
split_joined [] ys front back z e = inl (front, refl, e)
split_joined {A = A} (x ∷ xs) ys [] back z e = let same : x ≡ z = cc in inr (xs, ap (λ (a : A). a ∷ xs) same)
split_joined {A = A} (x ∷ xs) ys (w ∷ front) back z e =
    let heads : x ≡ w = cc in
    let tails : xs ++ ys ≡ front ++ z ∷ back = cc in
    ⊎_elim (λ h. inl (h.0, ap (λ (a : A). a ∷ front) (sym heads) ∙ ap (λ (l : List A). x ∷ l) h.1, h.2))
    (λ h. inr (h.0, ap (λ (a : A). a ∷ xs) heads ∙ ap (λ (l : List A). w ∷ l) h.1)) (split_joined xs ys front back z tails)

not_empty : (pre : List Fragment) (f : Fragment) (post : List Fragment) → kinds_of (pre ++ f ∷ post) ≡ [] → ⊥
not_empty [] f post e = cc
not_empty (p ∷ pre) f post e = cc

-- after a record's first fragment, each fragment that has another one after it is a middle one
goes_on : (pre : List Fragment) (f : Fragment) (post : List Fragment) → GoesToLast (kinds_of (pre ++ f ∷ post)) → AllByRecursion (λ k. k ≡ middle) (kinds_of pre)
goes_on [] f post goes = tt
goes_on (p ∷ pre) f post goes = with_kind p.kind (goes_on pre f post) goes
  where
    with_kind : (k : Kind) → (GoesToLast (kinds_of (pre ++ f ∷ post)) → AllByRecursion (λ k. k ≡ middle) (kinds_of pre))
        → GoesToLast (k ∷ kinds_of (pre ++ f ∷ post)) → (k ≡ middle) × AllByRecursion (λ k. k ≡ middle) (kinds_of pre)
    with_kind middle on goes = (refl, on goes)
    with_kind last on none = absurd (not_empty pre f post none)
    with_kind full on none = absurd none
    with_kind first on none = absurd none

pub begins : (pre : List Fragment) (f : Fragment) (post : List Fragment) → AreOneRecord (kinds_of (pre ++ f ∷ post)) → AreBegun (kinds_of pre)
begins [] f post one = tt
begins (p ∷ pre) f post one = with_kind p.kind one
  where
    with_kind : (k : Kind) → AreOneRecord (k ∷ kinds_of (pre ++ f ∷ post)) → AreBegun (k ∷ kinds_of pre)
    with_kind first goes = goes_on pre f post goes
    with_kind full none = absurd (not_empty pre f post none)
    with_kind middle none = absurd none
    with_kind last none = absurd none
