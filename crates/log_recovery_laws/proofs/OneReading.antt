-- Reading on gives one record or one end, and not both.
use Rattle.std.proofs.Common.{◌≡◌, ⊎_elim, ℕ, List, [], ◌∷◌, ◌++◌, length, Option, refl, sym, ◌∙◌, ap, subst, append_assoc, append-nil}
use Rattle.model_base.specs.declared.log.EndReason.{EndReason}
use Rattle.model_base.specs.declared.log.EndReason.TheVariants as ends
use Rattle.model_base.specs.Log.{Fragment, AreOneRecord, kinds_of, record_of, next_place}
use Rattle.model_base.specs.Reading.{Seen, Next, fragment, nothing, damage, next_seen, end_of, AreBegun, HasFragments, ReadsThenSees, ReadingEnds, clean, broken, bad_order, unfinished}
use Rattle.log_laws.proofs.Placed.{begins}
use Rattle.log_laws.proofs.Crash.{not_both}
use Rattle.log_laws.proofs.ReadSynced.{next_first, both_stand, stand_behind, begun_front, reading_goes_on}
use Rattle.log_recovery_laws.specs.Reads.{Answer, found, ended, Reads}

-- At an offset there is at most one record.
pub one_record : (number : Option ℕ) (file : List ℕ) (offset : ℕ) (xs ys : List Fragment) → AreOneRecord (kinds_of xs) → AreOneRecord (kinds_of ys) → HasFragments number file offset xs → HasFragments number file offset ys → xs ≡ ys
one_record number file offset xs ys one_x one_y at_x at_y =
    ⊎_elim (λ h. by_rest h.0 h.1)
    (λ h. absurd (not_both (kinds_of ys) one_y (begins ys h.0 h.1 (subst (λ (l : List Fragment). AreOneRecord (kinds_of l)) h.2 one_x))))
    (both_stand number file offset xs ys at_x at_y)
  where
    by_rest : (rest : List Fragment) → ys ≡ xs ++ rest → xs ≡ ys
    by_rest [] e = sym (e ∙ append-nil xs)
    by_rest (z ∷ rest) e = absurd (not_both (kinds_of xs) one_x (begins xs z rest (subst (λ (l : List Fragment). AreOneRecord (kinds_of l)) e one_y)))

-- Where there is a record, reading doesn't end.
pub no_end : (number : Option ℕ) (file : List ℕ) (offset at : ℕ) (why : EndReason) (fs : List Fragment) → AreOneRecord (kinds_of fs) → HasFragments number file offset fs → ReadingEnds number file offset at why → ⊥
no_end number file offset at why fs one stand end = reading_goes_on number file offset fs [] one (subst (HasFragments number file offset) (sym (append-nil fs)) stand) at why end

-- Where an end shows, and why it is one, computed from the begun fragments and from what is seen after them.
place_at_end : Option ℕ → List ℕ → ℕ → List Fragment → ℕ
place_at_end number file offset [] = length file
place_at_end number file offset (f ∷ fs) = next_place number offset

place_of : Option ℕ → List ℕ → ℕ → List Fragment → ℕ → Seen → ℕ
place_of number file offset fs at nothing = place_at_end number file offset fs
place_of number file offset fs at (damage d) = at
place_of number file offset fs at (fragment f) = at

reason_at_end : List Fragment → EndReason
reason_at_end [] = ends.Clean
reason_at_end (f ∷ fs) = ends.Unfinished

reason_of : List Fragment → Seen → EndReason
reason_of fs nothing = reason_at_end fs
reason_of fs (damage d) = ends.Broken d
reason_of fs (fragment f) = ends.BadOrder

-- reading stops after these fragments, since what is seen there doesn't continue the record
record Stops (number : Option ℕ) (file : List ℕ) (offset at : ℕ) (why : EndReason) : Type 0 where
  fs : List Fragment
  next : Next
  comes : ReadsThenSees number file offset fs next
  stops : (z : Fragment) → next.seen ≡ fragment z → AreBegun (kinds_of (fs ++ z ∷ [])) → ⊥
  place : at ≡ place_of number file offset fs next.at next.seen
  reason : why ≡ reason_of fs next.seen

reading_stops : (number : Option ℕ) (file : List ℕ) (offset at : ℕ) (why : EndReason) → ReadingEnds number file offset at why → Stops number file offset at why
unfolding place_of reason_of place_at_end reason_at_end
reading_stops number file offset at why (clean {at = p} c) = record { fs = []; next = record { at = p; seen = nothing }; comes = c; stops = λ z e begun. cc; place = refl; reason = refl }
reading_stops number file offset at why (broken {at = p} {d = d} fs c) = record { fs = fs; next = record { at = p; seen = damage d }; comes = c; stops = λ z e begun. cc; place = refl; reason = refl }
reading_stops number file offset at why (bad_order {at = p} {f = f} fs c not_begun not_one) = record {
  fs = fs;
  next = record { at = p; seen = fragment f };
  comes = c;
  stops = λ z e begun. let same : f ≡ z = cc in not_begun (subst (λ (x : Fragment). AreBegun (kinds_of (fs ++ x ∷ []))) (sym same) begun);
  place = refl;
  reason = refl;
}
reading_stops number file offset at why (unfinished {at = p} f fs c) = record { fs = f ∷ fs; next = record { at = p; seen = nothing }; comes = c; stops = λ z e begun. cc; place = refl; reason = refl }

-- no begun record in the file goes on past the fragments after which reading stops
not_past : (number : Option ℕ) (file : List ℕ) (offset at : ℕ) (why : EndReason) (s : Stops number file offset at why) (gs rest : List Fragment) (z : Fragment) → AreBegun (kinds_of gs) → HasFragments number file offset gs → gs ≡ s.fs ++ z ∷ rest → ⊥
not_past number file offset at why s gs rest z begun stand e =
    let there = stand_behind number file offset s.fs (z ∷ rest) (subst (HasFragments number file offset) e stand) in
    s.stops z (ap (λ (n : Next). n.seen) (s.comes.is_next ∙ next_first number file (end_of number offset s.fs) z rest there))
    (begun_front (s.fs ++ z ∷ []) rest (subst (λ (l : List Fragment). AreBegun (kinds_of l)) (e ∙ sym (append_assoc s.fs (z ∷ []) rest)) begun))

same_stop : (number : Option ℕ) (file : List ℕ) (offset at other : ℕ) (why reason : EndReason) (s : Stops number file offset at why) (t : Stops number file offset other reason) → s.fs ≡ t.fs
same_stop number file offset at other why reason s t =
    ⊎_elim (λ h. by_rest h.0 h.1)
    (λ h. absurd (not_past number file offset other reason t s.fs h.1 h.0 s.comes.begun s.comes.stand h.2))
    (both_stand number file offset s.fs t.fs s.comes.stand t.comes.stand)
  where
    by_rest : (rest : List Fragment) → t.fs ≡ s.fs ++ rest → s.fs ≡ t.fs
    by_rest [] e = sym (e ∙ append-nil s.fs)
    by_rest (z ∷ rest) e = absurd (not_past number file offset at why s t.fs rest z t.comes.begun t.comes.stand e)

-- There is at most one end.
pub one_end : (number : Option ℕ) (file : List ℕ) (offset at other : ℕ) (why reason : EndReason) → ReadingEnds number file offset at why → ReadingEnds number file offset other reason → (at ≡ other) × (why ≡ reason)
one_end number file offset at other why reason x y =
    let s = reading_stops number file offset at why x in
    let t = reading_stops number file offset other reason y in
    let same : s.fs ≡ t.fs = same_stop number file offset at other why reason s t in
    let next : s.next ≡ t.next = s.comes.is_next ∙ (ap (λ (fs : List Fragment). next_seen number file (end_of number offset fs)) same ∙ sym t.comes.is_next) in (
      s.place ∙ (ap (λ (n : Next). place_of number file offset s.fs n.at n.seen) next ∙ (ap (λ (fs : List Fragment). place_of number file offset fs t.next.at t.next.seen) same ∙ sym t.place)),
      s.reason ∙ (ap (λ (n : Next). reason_of s.fs n.seen) next ∙ (ap (λ (fs : List Fragment). reason_of fs t.next.seen) same ∙ sym t.reason)),
    )

-- There is at most one answer.
pub one_answer : (number : Option ℕ) (file : List ℕ) (offset : ℕ) (a b : Answer) → Reads number file offset a → Reads number file offset b → a ≡ b
one_answer number file offset (found s e bytes) (found t f others) x y =
    let same : x.fragments ≡ y.fragments = one_record number file offset x.fragments y.fragments x.one y.one x.stand y.stand in
    ap (λ (n : ℕ). found n e bytes) (x.starts ∙ sym y.starts)
    ∙ (ap (λ (n : ℕ). found t n bytes) (x.ends ∙ (ap (end_of number offset) same ∙ sym y.ends)) ∙ ap (λ (l : List ℕ). found t f l) (x.bytes_are ∙ (ap record_of same ∙ sym y.bytes_are)))
one_answer number file offset (found s e bytes) (ended at why) x y = absurd (no_end number file offset at why x.fragments x.one x.stand y)
one_answer number file offset (ended at why) (found s e bytes) x y = absurd (no_end number file offset at why y.fragments y.one y.stand x)
one_answer number file offset (ended at why) (ended other reason) x y =
    let same = one_end number file offset at other why reason x y in
    ap (λ (n : ℕ). ended n why) same.0 ∙ ap (λ (r : EndReason). ended other r) same.1
