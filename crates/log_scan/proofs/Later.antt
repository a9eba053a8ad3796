-- Reading is tried again at a later place than the one from which it ended.
use Rattle.std.proofs.Common.{◌≡◌, ℕ, ◌+◌, ◌<◌, ◌≤◌, Bool, true, false, cond, List, [], ◌∷◌, ◌++◌, length, drop, Option, Some, refl, sym, ◌∙◌, ap, subst, arith}
use Rattle.model_base.specs.declared.log.EndReason.{EndReason}
use Rattle.model_base.specs.Log.{Kind, full, first, middle, last, Fragment, AreOneRecord, kinds_of}
use Rattle.model_base.specs.Reading.{fragment, damage, kind_of_code, type_field, end_of, AreBegun, ReadsThenSees, ReadingEnds, clean, broken, bad_order, unfinished}
use Rattle.log_laws.proofs.Placed.{end_more}
use Rattle.log_scan.specs.Resuming.{fragment_len, begins_record, after_damage, after_misplaced}
use Rattle.log_scan.specs.Scanning.{later_place}
use Rattle.log_scan.proofs.Places.{some_header, place_there, resumes_there, after_damage_later, next_after, seen_there, kind_there}

-- one fragment that begins a record is begun, or is a whole one
not_alone : (k : Kind) → begins_record (Some k) ≡ true → (AreBegun (k ∷ []) → ⊥) → (AreOneRecord (k ∷ []) → ⊥) → ⊥
not_alone full e not_begun not_one = not_one refl
not_alone first e not_begun not_one = not_begun tt
not_alone middle e not_begun not_one = cc
not_alone last e not_begun not_one = cc

pub end_later : (number : Option ℕ) (offset : ℕ) (f : Fragment) (fs : List Fragment) → offset < end_of number offset (f ∷ fs)
end_later number offset f fs = omega (arith, end_more number offset f fs, some_header number)

-- A fragment in a wrong place that begins a record has fragments before it, which did begin one.
misplaced_later : (number : Option ℕ) (file : List ℕ) (here at : ℕ) (f : Fragment) (fs : List Fragment) → ReadsThenSees number file here fs (record { at = at; seen = fragment f })
    → (AreBegun (kinds_of (fs ++ f ∷ [])) → ⊥) → (AreOneRecord (kinds_of (fs ++ f ∷ [])) → ⊥) → here < after_misplaced number file at
misplaced_later number file here at f fs comes not_begun not_one = by_header (begins_record (kind_of_code number (type_field (drop at file)))) refl
  where
    after : end_of number here fs ≤ at
    after = next_after number file (end_of number here fs) at (fragment f) comes.is_next

    kind : kind_of_code number (type_field (drop at file)) ≡ Some f.kind
    kind = kind_there number file at f (seen_there number file (end_of number here fs) at f comes.is_next)

    by_fragments : (gs : List Fragment) → gs ≡ fs → begins_record (Some f.kind) ≡ true → here < end_of number here gs
    by_fragments [] same e = absurd (not_alone f.kind e
        (λ begun. not_begun (subst (λ (l : List Fragment). AreBegun (kinds_of (l ++ f ∷ []))) same begun))
        (λ one. not_one (subst (λ (l : List Fragment). AreOneRecord (kinds_of (l ++ f ∷ []))) same one)))
    by_fragments (g ∷ gs) same e = end_later number here g gs

    by_header : (b : Bool) → begins_record (kind_of_code number (type_field (drop at file))) ≡ b → here < cond b at (at + fragment_len number (drop at file))
    by_header true e = omega (arith, after, by_fragments fs refl (sym (ap begins_record kind) ∙ e))
    by_header false e = omega (arith, after, some_header number)

pub is_later : (number : Option ℕ) (goes_on : Bool) (file : List ℕ) (here at next : ℕ) (why : EndReason) → ReadingEnds number file here at why
    → later_place number goes_on file at why ≡ Some next → (here < next) × (next < length file)
is_later number false file here at next why end again = absurd (cc)
is_later number true file here at next why (clean c) again = absurd (cc)
is_later number true file here at next why (unfinished f fs c) again = absurd (cc)
is_later number true file here at next why (broken {d = d} fs c) again =
    let is = place_there file (after_damage number file at) next (resumes_there number file at next d again).1 in
    (omega (arith, is.0, after_damage_later number file at, next_after number file (end_of number here fs) at (damage d) c.is_next), is.1)
is_later number true file here at next why (bad_order {f = f} fs c not_begun not_one) again =
    let is = place_there file (after_misplaced number file at) next again in
    (omega (arith, is.0, misplaced_later number file here at f fs c not_begun not_one), is.1)
