-- Reading on gives a record or an end.
use Rattle.std.proofs.Common.{◌≡◌, ⊎_elim, ℕ, zero, suc, ◌+◌, ◌<◌, ◌≤◌, List, [], ◌∷◌, ◌++◌, length, drop, Option, Some, None, refl, sym, ◌∙◌, ap, arith, append_assoc}
use Rattle.std.proofs.Math.Seq.{drop-append_seam}
use Rattle.std.proofs.lemmas.List.{drop-drop}
use Rattle.model_base.specs.declared.log.EndReason.TheVariants as ends
use Rattle.model_base.specs.Log.{header_len, Fragment, fragments_text, AreOneRecord, kinds_of, record_of, next_place}
use Rattle.model_base.specs.Reading.{Seen, Next, fragment, nothing, damage, next_seen, end_of, AreBegun, HasFragments, ReadsThenSees, clean, broken, bad_order, unfinished}
use Rattle.log_laws.proofs.Placed.{behind, end_none, end_more, placed_append}
use Rattle.log_laws.proofs.Written.{fit_joined}
use Rattle.log_recovery_laws.specs.Reads.{AreBytes, Answer, found, ended, Reads}
use Rattle.log_recovery_laws.proofs.NextFragment.{next_stands}
use Rattle.log_recovery_laws.proofs.Deciding.{are_begun, are_one}

-- what follows fragments that are in the file is the rest of the file from their end on
behind_stand : (number : Option ℕ) (file : List ℕ) (offset : ℕ) (fs : List Fragment) (s : HasFragments number file offset fs) → s.rest ≡ drop (end_of number offset fs) file
behind_stand number file offset fs s =
    sym (drop-append_seam (fragments_text number offset fs) s.rest) ∙ (ap (drop (length (fragments_text number offset fs))) (sym s.there) ∙ drop-drop (length (fragments_text number offset fs)) offset file)

pub stand_more : (number : Option ℕ) (file : List ℕ) (offset : ℕ) (fs gs : List Fragment) → HasFragments number file offset fs → HasFragments number file (end_of number offset fs) gs → HasFragments number file offset (fs ++ gs)
stand_more number file offset fs gs s t = record {
  rest = t.rest;
  there = s.there
      ∙ (ap (λ (l : List ℕ). fragments_text number offset fs ++ l) (behind_stand number file offset fs s ∙ t.there)
      ∙ (sym (append_assoc (fragments_text number offset fs) (fragments_text number (end_of number offset fs) gs) t.rest) ∙ ap (λ (l : List ℕ). l ++ t.rest) (sym (placed_append number offset fs gs))));
  fit = fit_joined number offset fs gs s.fit t.fit;
}

pub end_after : (number : Option ℕ) (offset : ℕ) (fs : List Fragment) (f : Fragment) → end_of number offset (fs ++ f ∷ []) ≡ behind number (end_of number offset fs) f
end_after number offset [] f = end_more number offset f [] ∙ (end_none number (behind number offset f) ∙ ap (λ (n : ℕ). behind number n f) (sym (end_none number offset)))
end_after number offset (g ∷ fs) f = end_more number offset g (fs ++ f ∷ []) ∙ (end_after number (behind number offset g) fs f ∙ ap (λ (n : ℕ). behind number n f) (sym (end_more number offset g fs)))

abbrev pub Result : Option ℕ → List ℕ → ℕ → Type 0
Result number file offset = (answer : Answer) × Reads number file offset answer

-- these fragments, which begin a record, are in the file from this offset on
record Begun (number : Option ℕ) (file : List ℕ) (offset : ℕ) (fs : List Fragment) : Type 0 where
  begun : AreBegun (kinds_of fs)
  stand : HasFragments number file offset fs

-- One more fragment.
module _ (number : Option ℕ) (file : List ℕ) (offset : ℕ) (fs : List Fragment) (are : AreBytes file) (b : Begun number file offset fs) where
  next : Next
  next = next_seen number file (end_of number offset fs)

  comes : (s : Seen) → next.seen ≡ s → ReadsThenSees number file offset fs (record { at = next.at; seen = s })
  unfolding next
  comes s e = record { begun = b.begun; stand = b.stand; is_next = ap (λ (x : Seen). record { at = next.at; seen = x }) (sym e) }

  at_end : (gs : List Fragment) → ReadsThenSees number file offset gs (record { at = next.at; seen = nothing }) → Result number file offset
  at_end [] c = (ended (length file) ends.Clean, clean c)
  at_end (g ∷ gs) c = (ended (next_place number offset) ends.Unfinished, unfinished g gs c)

  -- how reading continues once the record has more fragments
  GoOn : Type 0
  GoOn = (gs : List Fragment) → Begun number file offset gs → end_of number offset fs < end_of number offset gs → end_of number offset gs ≤ length file → Result number file offset

  with_fragment : (f : Fragment) → next.seen ≡ fragment f → GoOn → Result number file offset
  unfolding next GoOn
  with_fragment f seen go_on =
      let there = next_stands number file (end_of number offset fs) f are seen in
      let stand = stand_more number file offset fs (f ∷ []) b.stand there.stand in
      let end : end_of number offset (fs ++ f ∷ []) ≡ behind number (end_of number offset fs) f = end_after number offset fs f in
      let within : end_of number offset (fs ++ f ∷ []) ≤ length file = omega (arith, end, there.within) in
      ⊎_elim
      (λ one. (
        found (next_place number offset) (end_of number offset (fs ++ f ∷ [])) (record_of (fs ++ f ∷ [])),
        record { fragments = fs ++ f ∷ []; one = one; stand = stand; starts = refl; ends = refl; bytes_are = refl; in_file = within },
      ))
      (λ not_one. ⊎_elim
      (λ begun. go_on (fs ++ f ∷ []) (record { begun = begun; stand = stand }) (omega (arith, end, some_header number)) within)
      (λ not_begun. (ended next.at ends.BadOrder, bad_order fs (comes (fragment f) seen) not_begun not_one))
      (are_begun (kinds_of (fs ++ f ∷ []))))
      (are_one (kinds_of (fs ++ f ∷ [])))
    where
      some_header : (number : Option ℕ) → 0 < header_len number
      some_header None = omega arith
      some_header (Some n) = omega arith

  step : GoOn → Result number file offset
  step go_on = by_seen next.seen refl
    where
      by_seen : (s : Seen) → next.seen ≡ s → Result number file offset
      by_seen nothing e = at_end fs (comes nothing e)
      by_seen (damage d) e = (ended next.at (ends.Broken d), broken fs (comes (damage d) e))
      by_seen (fragment f) e = with_fragment f e go_on

reads_from : (number : Option ℕ) (file : List ℕ) (offset : ℕ) → AreBytes file → (fuel : ℕ) (fs : List Fragment) → Begun number file offset fs → length file < fuel + end_of number offset fs → Result number file offset
unfolding GoOn
reads_from number file offset are zero fs b enough = step number file offset fs are b (λ gs begun more within. absurd (omega (arith, enough, more, within)))
reads_from number file offset are (suc fuel) fs b enough =
    step number file offset fs are b (λ gs begun more within. reads_from number file offset are fuel gs begun (omega (arith, enough, more)))

pub reads_some : (number : Option ℕ) (file : List ℕ) (offset : ℕ) → AreBytes file → Result number file offset
reads_some number file offset are =
    reads_from number file offset are (suc (length file)) [] (record { begun = tt; stand = record { rest = drop offset file; there = refl; fit = tt } }) (omega (arith, end_none number offset))

-- A record takes at least one byte.
pub record_long : (number : Option ℕ) (offset : ℕ) (fs : List Fragment) → AreOneRecord (kinds_of fs) → offset < end_of number offset fs
record_long number offset [] one = absurd one
record_long number offset (f ∷ fs) one = omega (arith, end_more number offset f fs, some_header number)
  where
    some_header : (number : Option ℕ) → 0 < header_len number
    some_header None = omega arith
    some_header (Some n) = omega arith
