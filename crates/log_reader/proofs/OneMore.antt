-- A record that gets one more fragment.
use Rattle.std.proofs.Common.{◌≡◌, ℕ, ◌+◌, List, [], ◌∷◌, ◌++◌, length, drop, slice_range, Option, Some, None, refl, sym, ◌∙◌, ap, subst, arith, length-append, append_assoc}
use Rattle.std.proofs.Math.Seq.{drop-append_seam}
use Rattle.std.proofs.lemmas.List.{drop-drop, append-nil}
use Rattle.std.specs.List.{AllByRecursion}
use Rattle.model_base.specs.declared.log.Damage.{Damage}
use Rattle.model_base.specs.declared.log.EndReason.TheVariants as ends
use Rattle.model_base.specs.Log.{Kind, full, first, middle, last, Fragment, fragments_text, FitFrom, next_place, GoesToLast, AreOneRecord, kinds_of, record_of}
use Rattle.model_base.specs.Reading.{Seen, Next, fragment, nothing, damage, next_seen, HasFragments, end_of, AreBegun, ReadsThenSees, ReadingEnds, clean, broken, bad_order, unfinished, IsRecord}
use Rattle.log_reader.specs.declared.reader.Continuation.TheVariants as continuation
use Rattle.log_reader.specs.Blocks.{IsNext}
use Rattle.log_reader.specs.Records.{Reads}
use Rattle.log_reader.specs.Steps.{BeginsAt, HasReadPart, continuation_of, end_of_reading}
use Rattle.log_laws.proofs.Placed.{behind, end_none, end_more, placed_append}

-- the first fragments of a record are a first one and then middle ones
first_kind : (k : Kind) (ks : List Kind) → AreBegun (k ∷ ks) → (k ≡ first) × AllByRecursion (λ j. j ≡ middle) ks
first_kind full ks are = absurd are
first_kind first ks are = (refl, are)
first_kind middle ks are = absurd are
first_kind last ks are = absurd are

begun_by : (k : Kind) (ks : List Kind) → k ≡ first → AllByRecursion (λ j. j ≡ middle) ks → AreBegun (k ∷ ks)
begun_by k ks e all = subst (λ j. AreBegun (j ∷ ks)) (sym e) all

one_by : (k : Kind) (ks : List Kind) → k ≡ first → GoesToLast ks → AreOneRecord (k ∷ ks)
one_by k ks e goes = subst (λ j. AreOneRecord (j ∷ ks)) (sym e) goes

goes_by : (k : Kind) (ks : List Kind) → k ≡ middle → GoesToLast ks → GoesToLast (k ∷ ks)
goes_by k ks e goes = subst (λ j. GoesToLast (j ∷ ks)) (sym e) goes

-- Middle fragments and one more middle one are middle fragments; middle fragments and a last one go to the last.
middles_more : (fs : List Fragment) (f : Fragment) → f.kind ≡ middle → AllByRecursion (λ j. j ≡ middle) (kinds_of fs) → AllByRecursion (λ j. j ≡ middle) (kinds_of (fs ++ f ∷ []))
middles_more [] f e all = (e, tt)
middles_more (g ∷ fs) f e all = (all.0, middles_more fs f e all.1)

to_last : (fs : List Fragment) (f : Fragment) → f.kind ≡ last → AllByRecursion (λ j. j ≡ middle) (kinds_of fs) → GoesToLast (kinds_of (fs ++ f ∷ []))
to_last [] f e all = subst (λ j. GoesToLast (j ∷ [])) (sym e) refl
to_last (g ∷ fs) f e all = goes_by g.kind (kinds_of (fs ++ f ∷ [])) all.0 (to_last fs f e all.1)

-- Conversely: where all are middle fragments, the one that was added is one; where they go to the last, it is a last
-- one.
no_middle : (fs : List Fragment) (f : Fragment) → AllByRecursion (λ j. j ≡ middle) (kinds_of (fs ++ f ∷ [])) → f.kind ≡ middle
no_middle [] f all = all.0
no_middle (g ∷ fs) f all = no_middle fs f all.1

ends_last : (k : Kind) → GoesToLast (k ∷ []) → k ≡ last
ends_last full goes = absurd goes
ends_last first goes = absurd goes
ends_last middle goes = absurd goes
ends_last last goes = refl

goes_from : (k : Kind) (ks : List Kind) → k ≡ middle → GoesToLast (k ∷ ks) → GoesToLast ks
goes_from k ks e goes = subst (λ j. GoesToLast (j ∷ ks)) e goes

no_last : (fs : List Fragment) (f : Fragment) → AllByRecursion (λ j. j ≡ middle) (kinds_of fs) → GoesToLast (kinds_of (fs ++ f ∷ [])) → f.kind ≡ last
no_last [] f all goes = ends_last f.kind goes
no_last (g ∷ fs) f all goes = no_last fs f all.1 (goes_from g.kind (kinds_of (fs ++ f ∷ [])) all.0 goes)

one_from : (k : Kind) (ks : List Kind) → k ≡ first → AreOneRecord (k ∷ ks) → GoesToLast ks
one_from k ks e one = subst (λ j. AreOneRecord (j ∷ ks)) e one

-- where a record goes on with a fragment, the fragments with it still begin a record, and it begins at `start`
pub more_begun : (number : Option ℕ) (fs : List Fragment) (f : Fragment) (begun : Option ℕ) (place at start : ℕ) → AreBegun (kinds_of fs) → BeginsAt number begun place fs → (fs ≡ [] → at ≡ next_place number place) → continuation_of f.kind begun at ≡ continuation.More start
    → AreBegun (kinds_of (fs ++ f ∷ [])) × BeginsAt number (Some start) place (fs ++ f ∷ [])
more_begun number [] f None place at start are begins here e = by_kind f.kind e
  where
    by_kind : (k : Kind) → continuation_of k None at ≡ continuation.More start → AreBegun (k ∷ []) × (start ≡ next_place number place)
    by_kind full h = absurd (cc)
    by_kind first h = let same : at ≡ start = cc in (tt, sym same ∙ here refl)
    by_kind middle h = absurd (cc)
    by_kind last h = absurd (cc)
more_begun number [] f (Some s) place at start are begins here e = absurd begins
more_begun number (g ∷ fs) f None place at start are begins here e = absurd begins
more_begun number (g ∷ fs) f (Some s) place at start are begins here e =
    let kinds = first_kind g.kind (kinds_of fs) are in
    let is = by_kind f.kind e in
    (begun_by g.kind (kinds_of (fs ++ f ∷ [])) kinds.0 (middles_more fs f is.0 kinds.1), sym is.1 ∙ begins)
  where
    by_kind : (k : Kind) → continuation_of k (Some s) at ≡ continuation.More start → (k ≡ middle) × (s ≡ start)
    by_kind full h = absurd (cc)
    by_kind first h = absurd (cc)
    by_kind middle h = (refl, cc)
    by_kind last h = absurd (cc)

pub last_one : (number : Option ℕ) (fs : List Fragment) (f : Fragment) (begun : Option ℕ) (place at start : ℕ) → AreBegun (kinds_of fs) → BeginsAt number begun place fs → (fs ≡ [] → at ≡ next_place number place) → continuation_of f.kind begun at ≡ continuation.Last start
    → AreOneRecord (kinds_of (fs ++ f ∷ [])) × (start ≡ next_place number place)
last_one number [] f None place at start are begins here e = by_kind f.kind e
  where
    by_kind : (k : Kind) → continuation_of k None at ≡ continuation.Last start → AreOneRecord (k ∷ []) × (start ≡ next_place number place)
    by_kind full h = let same : at ≡ start = cc in (refl, sym same ∙ here refl)
    by_kind first h = absurd (cc)
    by_kind middle h = absurd (cc)
    by_kind last h = absurd (cc)
last_one number [] f (Some s) place at start are begins here e = absurd begins
last_one number (g ∷ fs) f None place at start are begins here e = absurd begins
last_one number (g ∷ fs) f (Some s) place at start are begins here e =
    let kinds = first_kind g.kind (kinds_of fs) are in
    let is = by_kind f.kind e in
    (one_by g.kind (kinds_of (fs ++ f ∷ [])) kinds.0 (to_last fs f is.0 kinds.1), sym is.1 ∙ begins)
  where
    by_kind : (k : Kind) → continuation_of k (Some s) at ≡ continuation.Last start → (k ≡ last) × (s ≡ start)
    by_kind full h = absurd (cc)
    by_kind first h = absurd (cc)
    by_kind middle h = absurd (cc)
    by_kind last h = (refl, cc)

pub misplaced : (number : Option ℕ) (fs : List Fragment) (f : Fragment) (begun : Option ℕ) (place at : ℕ) → AreBegun (kinds_of fs) → BeginsAt number begun place fs → continuation_of f.kind begun at ≡ continuation.Misplaced
    → (AreBegun (kinds_of (fs ++ f ∷ [])) → ⊥) × (AreOneRecord (kinds_of (fs ++ f ∷ [])) → ⊥)
misplaced number [] f None place at are begins e = by_kind f.kind e
  where
    by_kind : (k : Kind) → continuation_of k None at ≡ continuation.Misplaced → (AreBegun (k ∷ []) → ⊥) × (AreOneRecord (k ∷ []) → ⊥)
    by_kind full h = absurd (cc)
    by_kind first h = absurd (cc)
    by_kind middle h = ((λ b. b), λ o. o)
    by_kind last h = ((λ b. b), λ o. o)
misplaced number [] f (Some s) place at are begins e = absurd begins
misplaced number (g ∷ fs) f None place at are begins e = absurd begins
misplaced number (g ∷ fs) f (Some s) place at are begins e =
    let kinds = first_kind g.kind (kinds_of fs) are in (
      (λ b. not_middle f.kind e (no_middle fs f (first_kind g.kind (kinds_of (fs ++ f ∷ [])) b).1)),
      λ o. not_last f.kind e (no_last fs f kinds.1 (one_from g.kind (kinds_of (fs ++ f ∷ [])) kinds.0 o)),
    )
  where
    not_middle : (k : Kind) → continuation_of k (Some s) at ≡ continuation.Misplaced → k ≡ middle → ⊥
    not_middle full h is = cc
    not_middle first h is = cc
    not_middle middle h is = cc
    not_middle last h is = cc

    not_last : (k : Kind) → continuation_of k (Some s) at ≡ continuation.Misplaced → k ≡ last → ⊥
    not_last full h is = cc
    not_last first h is = cc
    not_last middle h is = cc
    not_last last h is = cc

-- the end of two lists of fragments, one after the other
end_append : (number : Option ℕ) (offset : ℕ) (xs ys : List Fragment) → end_of number offset (xs ++ ys) ≡ end_of number (end_of number offset xs) ys
end_append number offset xs ys =
    omega (arith, ap length (placed_append number offset xs ys), length-append (fragments_text number offset xs) (fragments_text number (end_of number offset xs) ys))

pub fit_joined : (number : Option ℕ) (offset : ℕ) (xs ys : List Fragment) → FitFrom number offset xs → FitFrom number (end_of number offset xs) ys → FitFrom number offset (xs ++ ys)
fit_joined number offset [] ys fit_x fit_y = subst (λ n. FitFrom number n ys) (end_none number offset) fit_y
fit_joined number offset (x ∷ xs) ys fit_x fit_y = (fit_x.0, fit_joined number (behind number offset x) xs ys fit_x.1 (subst (λ n. FitFrom number n ys) (end_more number offset x xs) fit_y))

-- what follows fragments that are in the file is the rest of the file from their end on
behind_stand : (number : Option ℕ) (file : List ℕ) (place : ℕ) (fs : List Fragment) (s : HasFragments number file place fs) → s.rest ≡ drop (end_of number place fs) file
behind_stand number file place fs s =
    sym (drop-append_seam (fragments_text number place fs) s.rest) ∙ (ap (drop (length (fragments_text number place fs))) (sym s.there) ∙ drop-drop (length (fragments_text number place fs)) place file)

stand_more : (number : Option ℕ) (file : List ℕ) (place : ℕ) (fs gs : List Fragment) → HasFragments number file place fs → HasFragments number file (end_of number place fs) gs → HasFragments number file place (fs ++ gs)
stand_more number file place fs gs s t = record {
  rest = t.rest;
  there = s.there
      ∙ (ap (λ (l : List ℕ). fragments_text number place fs ++ l) (behind_stand number file place fs s ∙ t.there)
      ∙ (sym (append_assoc (fragments_text number place fs) (fragments_text number (end_of number place fs) gs) t.rest) ∙ ap (λ (l : List ℕ). l ++ t.rest) (sym (placed_append number place fs gs))));
  fit = fit_joined number place fs gs s.fit t.fit;
}

record_more : (fs : List Fragment) (f : Fragment) → record_of (fs ++ f ∷ []) ≡ record_of fs ++ f.part
record_more [] f = append-nil f.part
record_more (g ∷ fs) f = ap (λ (l : List ℕ). g.part ++ l) (record_more fs f) ∙ sym (append_assoc g.part (record_of fs) f.part)

-- the fragment that comes next
abbrev pub the_fragment : (number : Option ℕ) (file : List ℕ) (offset start : ℕ) (block : List ℕ) (at code from to : ℕ) → IsNext number file offset start block at code from to → Fragment
the_fragment number file offset start block at code from to n = record { kind = n.kind; part = slice_range block from to }

-- with this fragment too the fragments are in the file, the record in hand has its part, and they end at `end`
pub record Added (number : Option ℕ) (file : List ℕ) (place : ℕ) (fs : List Fragment) (f : Fragment) (old new : List ℕ) (end : ℕ) : Type 0 where
  pub stand : HasFragments number file place (fs ++ f ∷ [])
  pub bytes_are : new ≡ record_of (fs ++ f ∷ [])
  pub there : end ≡ end_of number place (fs ++ f ∷ [])

pub added : (number : Option ℕ) (file : List ℕ) (place offset start : ℕ) (block : List ℕ) (at code from to : ℕ) (begun : Option ℕ) (old new : List ℕ) (s : HasReadPart number file place begun old offset) (n : IsNext number file offset start block at code from to)
    → new ≡ old ++ slice_range block from to → Added number file place s.fragments (the_fragment number file offset start block at code from to n) old new (start + to)
added number file place offset start block at code from to begun old new s n e =
    let fs = s.fragments in
    let f = the_fragment number file offset start block at code from to n in
    record {
      stand = stand_more number file place fs (f ∷ []) s.stand (subst (λ p. HasFragments number file p (f ∷ [])) s.there n.stands);
      bytes_are = e ∙ (ap (λ (l : List ℕ). l ++ f.part) s.bytes_are ∙ sym (record_more fs f));
      there = sym n.end ∙ (ap (λ (p : ℕ). end_of number p (f ∷ [])) s.there ∙ sym (end_append number place fs (f ∷ [])));
    }

-- where no fragment was read before, the record begins at this one
pub begins_here : (number : Option ℕ) (file : List ℕ) (place offset start : ℕ) (block : List ℕ) (at code from to : ℕ) (begun : Option ℕ) (old : List ℕ) (s : HasReadPart number file place begun old offset) → IsNext number file offset start block at code from to
    → s.fragments ≡ [] → start + at ≡ next_place number place
begins_here number file place offset start block at code from to begun old s n none =
    n.place ∙ ap (next_place number) (s.there ∙ (ap (end_of number place) none ∙ end_none number place))

-- what the reader sees after the fragments
sees_behind : (number : Option ℕ) (file : List ℕ) (place offset : ℕ) (begun : Option ℕ) (old : List ℕ) (s : HasReadPart number file place begun old offset) (next : Next) → next_seen number file offset ≡ next → ReadsThenSees number file place s.fragments next
sees_behind number file place offset begun old s next e = record {
  begun = s.are_begun;
  stand = s.stand;
  is_next = sym (ap (next_seen number file) (sym s.there) ∙ e);
}

pub ends_in_order : (number : Option ℕ) (file : List ℕ) (place offset start : ℕ) (block : List ℕ) (at code from to : ℕ) (begun : Option ℕ) (old : List ℕ) (s : HasReadPart number file place begun old offset) (n : IsNext number file offset start block at code from to)
    → continuation_of n.kind begun (start + at) ≡ continuation.Misplaced → ReadingEnds number file place (start + at) ends.BadOrder
ends_in_order number file place offset start block at code from to begun old s n e =
    let f = the_fragment number file offset start block at code from to n in
    let wrong = misplaced number s.fragments f begun place (start + at) s.are_begun s.begins e in
    bad_order s.fragments (sees_behind number file place offset begun old s (record { at = start + at; seen = fragment f }) n.seen) wrong.0 wrong.1

pub ends_in_damage : (number : Option ℕ) (file : List ℕ) (place offset at : ℕ) (d : Damage) (begun : Option ℕ) (old : List ℕ) → HasReadPart number file place begun old offset → next_seen number file offset ≡ record { at = at; seen = damage d } → ReadingEnds number file place at (ends.Broken d)
ends_in_damage number file place offset at d begun old s e = broken s.fragments (sees_behind number file place offset begun old s (record { at = at; seen = damage d }) e)

pub ends_with_file : (number : Option ℕ) (file : List ℕ) (place offset file_len : ℕ) (begun : Option ℕ) (old new : List ℕ) → HasReadPart number file place begun old offset → (next_seen number file offset).seen ≡ nothing → length file ≡ file_len
    → Reads number file place new (end_of_reading begun file_len)
ends_with_file number file place offset file_len begun old new s none len = by_begun begun s.fragments s.begins
    (sees_behind number file place offset begun old s (record { at = (next_seen number file offset).at; seen = nothing }) (ap (λ (x : Seen). record { at = (next_seen number file offset).at; seen = x }) none))
  where
    by_begun : (b : Option ℕ) (fs : List Fragment) → BeginsAt number b place fs → ReadsThenSees number file place fs (record { at = (next_seen number file offset).at; seen = nothing }) → Reads number file place new (end_of_reading b file_len)
    by_begun None [] begins comes = subst (λ n. ReadingEnds number file place n ends.Clean) len (clean comes)
    by_begun None (f ∷ fs) begins comes = absurd begins
    by_begun (Some start) [] begins comes = absurd begins
    by_begun (Some start) (f ∷ fs) begins comes = subst (λ n. ReadingEnds number file place n ends.Unfinished) (sym begins) (unfinished f fs comes)

-- the record goes on with this fragment
pub goes_further : (number : Option ℕ) (file : List ℕ) (place offset start : ℕ) (block : List ℕ) (at code from to begin : ℕ) (begun : Option ℕ) (old new : List ℕ) → HasReadPart number file place begun old offset → (n : IsNext number file offset start block at code from to)
    → continuation_of n.kind begun (start + at) ≡ continuation.More begin → new ≡ old ++ slice_range block from to → HasReadPart number file place (Some begin) new (start + to)
goes_further number file place offset start block at code from to begin begun old new s n e taken =
    let f = the_fragment number file offset start block at code from to n in
    let more = added number file place offset start block at code from to begun old new s n taken in
    let kinds = more_begun number s.fragments f begun place (start + at) begin s.are_begun s.begins (begins_here number file place offset start block at code from to begun old s n) e in
    record { fragments = s.fragments ++ f ∷ []; are_begun = kinds.0; stand = more.stand; begins = kinds.1; bytes_are = more.bytes_are; there = more.there }

-- the record ends with this fragment
pub ends_record : (number : Option ℕ) (file : List ℕ) (place offset start : ℕ) (block : List ℕ) (at code from to begin : ℕ) (begun : Option ℕ) (old new : List ℕ) → HasReadPart number file place begun old offset → (n : IsNext number file offset start block at code from to)
    → continuation_of n.kind begun (start + at) ≡ continuation.Last begin → new ≡ old ++ slice_range block from to → IsRecord number file place begin (start + to) new
ends_record number file place offset start block at code from to begin begun old new s n e taken =
    let f = the_fragment number file offset start block at code from to n in
    let more = added number file place offset start block at code from to begun old new s n taken in
    let kinds = last_one number s.fragments f begun place (start + at) begin s.are_begun s.begins (begins_here number file place offset start block at code from to begun old s n) e in
    record { fragments = s.fragments ++ f ∷ []; one = kinds.0; stand = more.stand; starts = kinds.1; ends = more.there; bytes_are = more.bytes_are; in_file = n.in_file }
