-- A reader of records gets all records in the synced bytes.
use Rattle.std.proofs.Common.{Option, ◌≡◌, ◌⊎◌, inl, inr, ⊎_elim, ℕ, ◌+◌, ◌<◌, ◌≤◌, nat_le, List, [], ◌∷◌, ◌++◌, length, take, drop, map, replicate, refl, sym, ◌∙◌, ap, subst, arith, length-append, append_assoc, length-take, length-drop, zero-add}
use Rattle.std.proofs.Math.ListN.{length-replicate}
use Rattle.std.proofs.Math.Seq.{take-take, drop-append_seam}
use Rattle.std.proofs.lemmas.Bool.{leb-true, leb-false}
use Rattle.std.proofs.lemmas.Grind.{flat_map-append}
use Rattle.std.proofs.lemmas.List.{drop-drop, take-append-drop, append-nil}
use Rattle.std.specs.List.{AllByRecursion}
use Rattle.model_base.specs.declared.log.EndReason.{EndReason}
use Rattle.model_base.specs.Log.{header_len, Kind, full, first, middle, last, Fragment, fragment_bytes, trailer, next_place, fragments_text, FitFrom, AreOneRecord, kinds_of, all_fragments, record_of, SpellsWhole}
use Rattle.model_base.specs.Reading.{Seen, Next, fragment, nothing, damage, seen_at, next_seen, end_of, AreBegun, HasFragments, ReadsThenSees, ReadingEnds, clean, broken, bad_order, unfinished}
use Rattle.model_base.specs.Recovery.{IsRead}
use Rattle.log_laws.proofs.Next.{cases_bool, fragment_len, seen_laid, next_laid}
use Rattle.log_laws.proofs.Placed.{behind, end_none, end_more, split_joined, begins}
use Rattle.log_laws.proofs.Agree.{Whole}
use Rattle.log_laws.proofs.Crash.{not_both}
use Rattle.log_laws.proofs.Synced.{spells_front, groups_spelled}

-- the first of the fragments that are at a place
module _ (number : Option ℕ) (file : List ℕ) (offset : ℕ) (f : Fragment) (fs : List Fragment) (stand : HasFragments number file offset (f ∷ fs)) where
  more : List ℕ
  more = fragments_text number (behind number offset f) fs ++ stand.rest

  there : drop offset file ≡ (replicate (trailer number offset) 0 ++ fragment_bytes number f) ++ more
  unfolding more
  there = stand.there ∙ append_assoc (replicate (trailer number offset) 0 ++ fragment_bytes number f) (fragments_text number (behind number offset f) fs) stand.rest

  here_len : length (replicate (trailer number offset) 0 ++ fragment_bytes number f) + offset ≡ behind number offset f
  here_len = omega (arith, length-append (replicate (trailer number offset) 0) (fragment_bytes number f), length-replicate {A = ℕ} (trailer number offset) 0, fragment_len number f)

  inside : length (take offset file) ≡ offset
  inside = omega (
    arith,
    length-take offset file,
    length-drop offset file,
    ap length there,
    length-append (replicate (trailer number offset) 0 ++ fragment_bytes number f) more,
    length-append (replicate (trailer number offset) 0) (fragment_bytes number f),
    fragment_len number f,
    some_header number,
  )
    where
      some_header : (number : Option ℕ) → 0 < header_len number
      some_header Option.None = omega arith
      some_header (Option.Some n) = omega arith

  file_is : file ≡ take offset file ++ ((replicate (trailer number offset) 0 ++ fragment_bytes number f) ++ more)
  file_is = sym (take-append-drop offset file) ∙ ap (λ (l : List ℕ). take offset file ++ l) there

  pub sees_first : seen_at number file (next_place number offset) ≡ fragment f
  sees_first = ap (λ (l : List ℕ). seen_at number l (next_place number offset)) file_is ∙ seen_laid number (take offset file) more f offset inside stand.fit.0

  pub next_first : next_seen number file offset ≡ record { at = next_place number offset; seen = fragment f }
  next_first = ap (λ (l : List ℕ). next_seen number l offset) file_is ∙ next_laid number (take offset file) more f offset inside stand.fit.0

  pub stand_rest : HasFragments number file (behind number offset f) fs
  unfolding more
  stand_rest = record {
    rest = stand.rest;
    there = ap (λ (n : ℕ). drop n file) (omega (arith, here_len))
        ∙ (sym (drop-drop (length (replicate (trailer number offset) 0 ++ fragment_bytes number f)) offset file)
        ∙ (ap (drop (length (replicate (trailer number offset) 0 ++ fragment_bytes number f))) there ∙ drop-append_seam (replicate (trailer number offset) 0 ++ fragment_bytes number f) more));
    fit = stand.fit.1;
  }

-- Of two lists of fragments that are at one place, one is a prefix of the other.
pub both_stand : (number : Option ℕ) (file : List ℕ) (offset : ℕ) (xs ys : List Fragment) → HasFragments number file offset xs → HasFragments number file offset ys
    → ((rest : List Fragment) × (ys ≡ xs ++ rest)) ⊎ ((z : Fragment) × (rest : List Fragment) × (xs ≡ ys ++ z ∷ rest))
both_stand number file offset [] ys at_x at_y = inl (ys, refl)
both_stand number file offset (x ∷ xs) [] at_x at_y = inr (x, xs, refl)
both_stand number file offset (x ∷ xs) (y ∷ ys) at_x at_y =
    let both : fragment x ≡ fragment y = sym (sees_first number file offset x xs at_x) ∙ sees_first number file offset y ys at_y in
    let same : x ≡ y = cc in
    let later_y : HasFragments number file (behind number offset x) ys = subst (λ (f : Fragment). HasFragments number file (behind number offset f) ys) (sym same) (stand_rest number file offset y ys at_y) in
    ⊎_elim (λ h. inl (h.0, ap (λ (f : Fragment). f ∷ ys) (sym same) ∙ ap (λ (l : List Fragment). x ∷ l) h.1))
    (λ h. inr (h.0, h.1, ap (λ (f : Fragment). f ∷ xs) same ∙ ap (λ (l : List Fragment). y ∷ l) h.2))
    (both_stand number file (behind number offset x) xs ys (stand_rest number file offset x xs at_x) later_y)

-- the fragments after the first ones are at the place where those end
pub stand_behind : (number : Option ℕ) (file : List ℕ) (offset : ℕ) (xs ys : List Fragment) → HasFragments number file offset (xs ++ ys) → HasFragments number file (end_of number offset xs) ys
stand_behind number file offset [] ys stand = subst (λ n. HasFragments number file n ys) (sym (end_none number offset)) stand
stand_behind number file offset (x ∷ xs) ys stand =
    subst (λ n. HasFragments number file n ys) (sym (end_more number offset x xs)) (stand_behind number file (behind number offset x) xs ys (stand_rest number file offset x (xs ++ ys) stand))

-- A prefix of fragments that begin a record begins a record too.
middles_front : (xs ys : List Fragment) → AllByRecursion (λ k. k ≡ middle) (kinds_of (xs ++ ys)) → AllByRecursion (λ k. k ≡ middle) (kinds_of xs)
middles_front [] ys all = tt
middles_front (x ∷ xs) ys all = (all.0, middles_front xs ys all.1)

pub begun_front : (xs ys : List Fragment) → AreBegun (kinds_of (xs ++ ys)) → AreBegun (kinds_of xs)
begun_front [] ys begun = tt
begun_front (x ∷ xs) ys begun = with_kind x.kind begun
  where
    with_kind : (k : Kind) → AreBegun (k ∷ kinds_of (xs ++ ys)) → AreBegun (k ∷ kinds_of xs)
    with_kind first all = middles_front xs ys all
    with_kind full none = none
    with_kind middle none = none
    with_kind last none = none

-- Where there is a whole record, reading doesn't end.
module _ (number : Option ℕ) (file : List ℕ) (offset : ℕ) (g later : List Fragment) (one : AreOneRecord (kinds_of g)) (stand : HasFragments number file offset (g ++ later)) where
  no_more : (fs p : List Fragment) → AreBegun (kinds_of fs) → fs ≡ g ++ p → ⊥
  no_more fs p begun e = not_both (kinds_of g) one (begun_front g p (subst (λ (l : List Fragment). AreBegun (kinds_of l)) e begun))

  -- after the first fragments of a record the reader sees its next one
  pub record GoesOn (fs : List Fragment) (seen : Seen) : Type 0 where
    pub next : Fragment
    pub rest : List Fragment
    pub within : g ≡ fs ++ next ∷ rest
    pub is_seen : seen ≡ fragment next

  sees_next : (fs post : List Fragment) (z : Fragment) (next : Next) → g ++ later ≡ fs ++ z ∷ post → next ≡ next_seen number file (end_of number offset fs) → next.seen ≡ fragment z
  sees_next fs post z next e is =
      let at_z : HasFragments number file (end_of number offset fs) (z ∷ post) = stand_behind number file offset fs (z ∷ post) (subst (HasFragments number file offset) e stand) in
      ap (λ (n : Next). n.seen) (is ∙ next_first number file (end_of number offset fs) z post at_z)

  goes_on : (fs : List Fragment) (next : Next) → ReadsThenSees number file offset fs next → GoesOn fs next.seen
  goes_on fs next comes = ⊎_elim
      (λ h. absurd (no_more fs (later ++ h.0) comes.begun (h.1 ∙ append_assoc g later h.0)))
      (λ h. ⊎_elim
      (λ s. absurd (no_more fs s.0 comes.begun s.1))
      (λ s. record { next = h.0; rest = s.0; within = s.1; is_seen = sees_next fs h.1 h.0 next h.2 comes.is_next })
      (split_joined g later fs h.1 h.0 h.2))
      (both_stand number file offset (g ++ later) fs stand comes.stand)

  in_order : (fs rest : List Fragment) (f : Fragment) → g ≡ fs ++ f ∷ rest → (AreBegun (kinds_of (fs ++ f ∷ [])) → ⊥) → (AreOneRecord (kinds_of (fs ++ f ∷ [])) → ⊥) → ⊥
  in_order fs [] f e not_begun not_one = not_one (subst (λ (l : List Fragment). AreOneRecord (kinds_of l)) e one)
  in_order fs (z ∷ rest) f e not_begun not_one =
      not_begun (begins (fs ++ f ∷ []) z rest (subst (λ (l : List Fragment). AreOneRecord (kinds_of l)) (e ∙ sym (append_assoc fs (f ∷ []) (z ∷ rest))) one))

  pub reading_goes_on : (at : ℕ) (why : EndReason) → ReadingEnds number file offset at why → ⊥
  reading_goes_on at why (clean {at = place} comes) =
      let on = goes_on [] (record { at = place; seen = nothing }) comes in
      let wrong : nothing ≡ fragment on.next = on.is_seen in cc
  reading_goes_on at why (broken {at = place} {d = d} fs comes) =
      let on = goes_on fs (record { at = place; seen = damage d }) comes in
      let wrong : damage d ≡ fragment on.next = on.is_seen in cc
  reading_goes_on at why (bad_order {at = place} {f = f} fs comes not_begun not_one) =
      let on = goes_on fs (record { at = place; seen = fragment f }) comes in
      let both : fragment f ≡ fragment on.next = on.is_seen in
      let same : f ≡ on.next = cc in
      in_order fs on.rest f (on.within ∙ ap (λ (x : Fragment). fs ++ x ∷ on.rest) (sym same)) not_begun not_one
  reading_goes_on at why (unfinished {at = place} f fs comes) =
      let on = goes_on (f ∷ fs) (record { at = place; seen = nothing }) comes in
      let wrong : nothing ≡ fragment on.next = on.is_seen in cc

-- where the records that were read end before the synced bytes do, the next record's fragments are there
stands_next : (number : Option ℕ) (image : List ℕ) (s kept : ℕ) (done later : List Fragment) → kept < s → s ≤ length image → take s image ≡ fragments_text number 0 (done ++ later) → take kept image ≡ fragments_text number 0 done
    → FitFrom number 0 (done ++ later) → HasFragments number image kept later
stands_next number image s kept done later less within whole part fit =
    let whole_stand : HasFragments number image 0 (done ++ later) = record { rest = drop s image; there = sym (take-append-drop s image) ∙ ap (λ (l : List ℕ). l ++ drop s image) whole; fit = fit } in
    let end : end_of number 0 done ≡ kept = zero-add (length (fragments_text number 0 done)) ∙ (ap length (sym part) ∙ omega (arith, length-take kept image)) in
    subst (λ n. HasFragments number image n later) end (stand_behind number image 0 done later whole_stand)

pub whole_last : (done : List (List Fragment)) (g : List Fragment) (gs : List (List Fragment)) → Whole (done ++ g ∷ gs) → AreOneRecord (kinds_of g)
whole_last [] g gs whole = whole.0
whole_last (d ∷ done) g gs whole = whole_last done g gs whole.1

pub reads_synced : (number : Option ℕ) → (image whole : List ℕ) (synced found : List (List ℕ)) → SpellsWhole number whole synced → IsRead number image found → length whole ≤ length image
    → take (length whole) image ≡ whole → length synced ≤ length found
reads_synced number image whole synced found spells is within front =
    let s = length whole in
    let spelled : SpellsWhole number (take s image) synced = subst (λ (bytes : List ℕ). SpellsWhole number bytes synced) (sym front) spells in
    cases_bool (nat_le s is.kept)
    (λ past.
    let below : s ≤ is.kept = leb-true s is.kept past in
    let parts : take is.kept image ≡ take s image ++ drop s (take is.kept image) = sym (take-append-drop s (take is.kept image)) ∙ ap (λ (l : List ℕ). l ++ drop s (take is.kept image)) (take-take s is.kept image below) in
    let more = spells_front number (take is.kept image) (take s image) (drop s (take is.kept image)) found synced parts is.spelled spelled in
    omega (arith, ap length more.1, length-append synced more.0))
    (λ before.
    let above : is.kept < s = leb-false s is.kept before in
    let parts : take s image ≡ take is.kept image ++ drop is.kept (take s image) = sym (take-append-drop is.kept (take s image)) ∙ ap (λ (l : List ℕ). l ++ drop is.kept (take s image)) (take-take is.kept s image (omega (arith, above))) in
    let more = groups_spelled number (take s image) (take is.kept image) (drop is.kept (take s image)) synced found parts spelled is.spelled in
    by_rest above spelled more.0 more.1)
  where
    by_rest : is.kept < length whole → (spelled : SpellsWhole number (take (length whole) image) synced) (rest : List (List Fragment)) → spelled.groups ≡ (is.spelled).groups ++ rest → length synced ≤ length found
    by_rest above spelled [] e = let same : synced ≡ found = spelled.same ∙ (ap (map record_of) (e ∙ append-nil (is.spelled).groups) ∙ sym (is.spelled).same) in omega (arith, ap length same)
    by_rest above spelled (g ∷ gs) e =
        let done = all_fragments (is.spelled).groups in
        let flat : all_fragments spelled.groups ≡ done ++ (g ++ all_fragments gs) = ap all_fragments e ∙ flat_map-append (λ (fs : List Fragment). fs) (is.spelled).groups (g ∷ gs) in
        let one : AreOneRecord (kinds_of g) = whole_last (is.spelled).groups g gs (subst Whole e spelled.whole) in
        absurd (reading_goes_on number image is.kept g (all_fragments gs) one
        (stands_next number image (length whole) is.kept done (g ++ all_fragments gs) above within (spelled.spelled ∙ ap (fragments_text number 0) flat) (is.spelled).spelled (subst (FitFrom number 0) flat spelled.fit))
        is.at is.why is.ends)
