-- Fragments that are in a file from an offset on, and what a reader sees of them.
use Rattle.std.proofs.Common.{Option, Some, None, ◌≡◌, ◌⊎◌, inl, inr, ⊎_elim, ℕ, ◌+◌, ◌<◌, ◌≤◌, List, [], ◌∷◌, ◌++◌, length, take, drop, replicate, refl, sym, ◌∙◌, ap, subst, arith, length-append, length-take, length-drop, append_assoc}
use Rattle.std.proofs.Math.Dec.{lit<}
use Rattle.std.proofs.Math.ListN.{length-replicate}
use Rattle.std.proofs.Math.Seq.{drop-append_seam}
use Rattle.std.proofs.lemmas.List.{take-append-drop, append-nil, drop-drop}
use Rattle.std.specs.List.{AllByRecursion}
use Rattle.model_base.specs.Log.{Kind, full, first, middle, last, header_len, Fragment, fragment_bytes, trailer, next_place, fragments_text, GoesToLast, AreOneRecord, kinds_of}
use Rattle.model_base.specs.Reading.{Next, fragment, next_seen, end_of, AreBegun, HasFragments, ReadsThenSees}
use Rattle.log_laws.proofs.Next.{fragment_len, next_laid}
use Rattle.log_laws.proofs.Placed.{behind, end_none, end_more, placed_append, fit_front, begins}

header_some : (number : Option ℕ) → 0 < header_len number
header_some None = lit< tt
header_some (Some n) = lit< tt

-- the text of the first one, after its zeros
abbrev pub laid : Option ℕ → ℕ → Fragment → List ℕ
laid number offset f = replicate (trailer number offset) 0 ++ fragment_bytes number f

length-laid : (number : Option ℕ) (offset : ℕ) (f : Fragment) → offset + length (laid number offset f) ≡ behind number offset f
length-laid number offset f =
    omega (arith, length-append (replicate (trailer number offset) 0) (fragment_bytes number f), length-replicate {A = ℕ} (trailer number offset) 0, fragment_len number f)

-- the file has the first one there, and after it the others
stands_there : (number : Option ℕ) (file : List ℕ) (offset : ℕ) (f : Fragment) (fs : List Fragment) (s : HasFragments number file offset (f ∷ fs))
    → drop offset file ≡ laid number offset f ++ (fragments_text number (behind number offset f) fs ++ s.rest)
stands_there number file offset f fs s = s.there ∙ append_assoc (laid number offset f) (fragments_text number (behind number offset f) fs) s.rest

-- The first one is what the reader sees next.
pub stands_seen : (number : Option ℕ) (file : List ℕ) (offset : ℕ) (f : Fragment) (fs : List Fragment) → HasFragments number file offset (f ∷ fs) → next_seen number file offset ≡ record { at = next_place number offset; seen = fragment f }
stands_seen number file offset f fs s =
    let more : List ℕ = fragments_text number (behind number offset f) fs ++ s.rest in
    let there = stands_there number file offset f fs s in
    let within : offset ≤ length file =
    omega (arith, length-drop offset file, ap length there, length-append (laid number offset f) more, length-laid number offset f, header_some number) in
    let file_is : file ≡ take offset file ++ (laid number offset f ++ more) = sym (take-append-drop offset file) ∙ ap (λ (l : List ℕ). take offset file ++ l) there in
    ap (λ (l : List ℕ). next_seen number l offset) file_is ∙ next_laid number (take offset file) more f offset (omega (arith, length-take offset file, within)) s.fit.0

-- The others follow it in the file.
pub stand_behind : (number : Option ℕ) (file : List ℕ) (offset : ℕ) (f : Fragment) (fs : List Fragment) → HasFragments number file offset (f ∷ fs) → HasFragments number file (behind number offset f) fs
stand_behind number file offset f fs s =
    let more : List ℕ = fragments_text number (behind number offset f) fs ++ s.rest in
    let piece : List ℕ = laid number offset f in
    record {
      rest = s.rest;
      there = ap (λ (n : ℕ). drop n file) (sym (length-laid number offset f)) ∙ sym (drop-drop (length piece) offset file) ∙ ap (drop (length piece)) (stands_there number file offset f fs s) ∙ drop-append_seam piece more;
      fit = s.fit.1;
    }

-- Of two lists of fragments, one after the other, the second is in the file from the end of the first on.
pub stand_back : (number : Option ℕ) (file : List ℕ) (offset : ℕ) (xs ys : List Fragment) → HasFragments number file offset (xs ++ ys) → HasFragments number file (end_of number offset xs) ys
stand_back number file offset [] ys s = subst (λ n. HasFragments number file n ys) (sym (end_none number offset)) s
stand_back number file offset (x ∷ xs) ys s =
    subst (λ n. HasFragments number file n ys) (sym (end_more number offset x xs)) (stand_back number file (behind number offset x) xs ys (stand_behind number file offset x (xs ++ ys) s))

-- The first is in the file where both are.
pub stand_front : (number : Option ℕ) (file : List ℕ) (offset : ℕ) (xs ys : List Fragment) → HasFragments number file offset (xs ++ ys) → HasFragments number file offset xs
stand_front number file offset xs ys s = record {
  rest = fragments_text number (end_of number offset xs) ys ++ s.rest;
  there = s.there ∙ ap (λ (l : List ℕ). l ++ s.rest) (placed_append number offset xs ys) ∙ append_assoc (fragments_text number offset xs) (fragments_text number (end_of number offset xs) ys) s.rest;
  fit = fit_front number offset xs ys s.fit;
}

-- Of two lists of fragments that are in the file from the same offset on, one is a prefix of the other.
pub one_front : (number : Option ℕ) (file : List ℕ) (offset : ℕ) (xs ys : List Fragment) → HasFragments number file offset xs → HasFragments number file offset ys
    → ((rest : List Fragment) × (xs ≡ ys ++ rest)) ⊎ ((rest : List Fragment) × (ys ≡ xs ++ rest))
one_front number file offset [] ys a b = inr (ys, refl)
one_front number file offset (x ∷ xs) [] a b = inl (x ∷ xs, refl)
one_front number file offset (x ∷ xs) (y ∷ ys) a b =
    let seen : fragment x ≡ fragment y = ap (λ (n : Next). n.seen) (sym (stands_seen number file offset x xs a) ∙ stands_seen number file offset y ys b) in
    let same : x ≡ y = cc in
    let behind_b : HasFragments number file (behind number offset x) ys = subst (λ z. HasFragments number file (behind number offset z) ys) (sym same) (stand_behind number file offset y ys b) in
    ⊎_elim (λ h. inl (h.0, ap (λ (z : Fragment). z ∷ xs) same ∙ ap (λ (l : List Fragment). y ∷ l) h.1))
    (λ h. inr (h.0, ap (λ (z : Fragment). z ∷ ys) (sym same) ∙ ap (λ (l : List Fragment). x ∷ l) h.1))
    (one_front number file (behind number offset x) xs ys (stand_behind number file offset x xs a) behind_b)

-- Fragments can't be a whole record and a begun one at once.
pub not_both : (kinds : List Kind) → AreOneRecord kinds → AreBegun kinds → ⊥
not_both [] one begun = one
not_both (full ∷ kinds) one begun = begun
not_both (first ∷ kinds) one begun = not_to_last kinds one begun
  where
    not_to_last : (kinds : List Kind) → GoesToLast kinds → AllByRecursion (λ k. k ≡ middle) kinds → ⊥
    not_to_last [] goes all = goes
    not_to_last (middle ∷ kinds) goes all = not_to_last kinds goes all.1
    not_to_last (last ∷ kinds) goes all = let wrong : last ≡ middle = all.0 in absurd (cc)
    not_to_last (full ∷ kinds) goes all = goes
    not_to_last (first ∷ kinds) goes all = goes
not_both (middle ∷ kinds) one begun = one
not_both (last ∷ kinds) one begun = one

-- a prefix of begun fragments is begun
begun_front : (xs ys : List Fragment) → AreBegun (kinds_of (xs ++ ys)) → AreBegun (kinds_of xs)
begun_front [] ys begun = tt
begun_front (x ∷ xs) ys begun = with_kind x.kind begun
  where
    all_front : (xs : List Fragment) → AllByRecursion (λ k. k ≡ middle) (kinds_of (xs ++ ys)) → AllByRecursion (λ k. k ≡ middle) (kinds_of xs)
    all_front [] all = tt
    all_front (z ∷ zs) all = (all.0, all_front zs all.1)

    with_kind : (k : Kind) → AreBegun (k ∷ kinds_of (xs ++ ys)) → AreBegun (k ∷ kinds_of xs)
    with_kind first all = all_front xs all
    with_kind full none = none
    with_kind middle none = none
    with_kind last none = none

-- if a record is still one record with more fragments after it, there are none of these
longer_not_one : (xs rest : List Fragment) → AreOneRecord (kinds_of xs) → AreOneRecord (kinds_of (xs ++ rest)) → rest ≡ []
longer_not_one xs [] one whole = refl
longer_not_one xs (z ∷ rest) one whole = absurd (not_both (kinds_of xs) one (begins xs z rest whole))

-- At an offset there is at most one record.
pub one_record : (number : Option ℕ) (file : List ℕ) (offset : ℕ) (xs ys : List Fragment) → AreOneRecord (kinds_of xs) → AreOneRecord (kinds_of ys) → HasFragments number file offset xs → HasFragments number file offset ys → xs ≡ ys
one_record number file offset xs ys one_x one_y a b =
    ⊎_elim
    (λ h. let none = longer_not_one ys h.0 one_y (subst (λ l. AreOneRecord (kinds_of l)) h.1 one_x) in h.1 ∙ ap (λ (l : List Fragment). ys ++ l) none ∙ append-nil ys)
    (λ h. let none = longer_not_one xs h.0 one_x (subst (λ l. AreOneRecord (kinds_of l)) h.1 one_y) in sym (h.1 ∙ ap (λ (l : List Fragment). xs ++ l) none ∙ append-nil xs))
    (one_front number file offset xs ys a b)

-- a reader that has met the fragments `fs`, the first ones of the record `g`, sees the record's next fragment
pub record GoesOn (fs g : List Fragment) (next : Next) : Type 0 where
  pub f : Fragment
  pub later : List Fragment
  pub parts : g ≡ fs ++ f ∷ later
  pub sees : next.seen ≡ fragment f

-- Where there is a record, a reader that has begun it sees its next fragment.
pub goes_on : (number : Option ℕ) (file : List ℕ) (offset : ℕ) (fs g : List Fragment) (next : Next) → ReadsThenSees number file offset fs next → AreOneRecord (kinds_of g) → HasFragments number file offset g → GoesOn fs g next
goes_on number file offset fs g next comes one stands =
    ⊎_elim (λ h. longer h.0 h.1)
    (λ h. absurd (not_both (kinds_of g) one (begun_front g h.0 (subst (λ l. AreBegun (kinds_of l)) h.1 comes.begun))))
    (one_front number file offset g fs stands comes.stand)
  where
    longer : (rest : List Fragment) → g ≡ fs ++ rest → GoesOn fs g next
    longer [] e = absurd (not_both (kinds_of g) one (subst (λ l. AreBegun (kinds_of l)) (sym (e ∙ append-nil fs)) comes.begun))
    longer (f ∷ later) e =
        let back = stand_back number file offset fs (f ∷ later) (subst (HasFragments number file offset) e stands) in
        record {
          f = f;
          later = later;
          parts = e;
          sees = ap (λ (n : Next). n.seen) (comes.is_next ∙ stands_seen number file (end_of number offset fs) f later back);
        }
