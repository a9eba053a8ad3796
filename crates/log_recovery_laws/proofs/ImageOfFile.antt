-- What recovery keeps of an image, where it meets no fragment but those that recovery of the file meets.
use Rattle.std.proofs.Common.{◌≡◌, ◌⊎◌, inl, inr, ⊎_elim, ℕ, zero, suc, ◌+◌, ◌<◌, ◌≤◌, List, [], ◌∷◌, ◌++◌, length, take, drop, map, Option, Some, None, nat_lt, refl, sym, ◌∙◌, ap, subst, arith, length-append, append_assoc, append-nil}
use Rattle.std.specs.Prelude.{⊤}
use Rattle.std.proofs.Math.Seq.{take-append_seam, take-take}
use Rattle.std.proofs.lemmas.Bool.{ltb-true, ltb-false}
use Rattle.std.proofs.lemmas.List.{take-append-drop}
use Rattle.model_base.specs.declared.log.EndReason.{EndReason}
use Rattle.model_base.specs.Log.{header_len, Fragment, fragments_text, AreOneRecord, kinds_of, next_place}
use Rattle.model_base.specs.Reading.{Seen, Next, fragment, nothing, damage, next_seen, end_of, AreBegun, HasFragments, ReadsThenSees, ReadingEnds, clean, broken, bad_order, unfinished}
use Rattle.model_base.specs.Recovery.{Logged, logged_bytes, Keeps, RecoveryEnds, reading, record_read, Recovered, recovered_last, IsRecovered}
use Rattle.log_laws.specs.Prefixes.{IsPrefix}
use Rattle.log_laws.proofs.Next.{cases_bool}
use Rattle.log_laws.proofs.Placed.{placed_append, begins}
use Rattle.log_laws.proofs.Crash.{not_both}
use Rattle.log_laws.proofs.ReadSynced.{next_first, both_stand, stand_behind}
use Rattle.log_laws.proofs.Synced.{spells_front, spells_one}
use Rattle.log_recovery_laws.specs.Images.{MeetsNoOther}
use Rattle.log_recovery_laws.proofs.NextFragment.{next_begins}
use Rattle.log_recovery_laws.proofs.Reading.{stand_more, end_after, record_long}
use Rattle.log_recovery_laws.proofs.Spelled.{fragments, end_is, all_stand, stand_front, no_shorter}
use Rattle.log_recovery_laws.proofs.Kept.{kept_begins, keeps_none, keeps_more, more_kept}

-- With more fragments, the place where the next one begins is a later one.
not_longer : (number : Option ℕ) (xs ys rest : List Fragment) (z : Fragment) → next_place number (end_of number 0 xs) ≡ next_place number (end_of number 0 ys) → xs ≡ ys ++ z ∷ rest → ⊥
not_longer number xs ys rest z place e =
    omega (arith, no_shorter number xs (ys ++ z ∷ []) rest (e ∙ sym (append_assoc ys (z ∷ []) rest)), end_after number 0 ys z, place, some_header number)
  where
    some_header : (number : Option ℕ) → 0 < header_len number
    some_header None = omega arith
    some_header (Some n) = omega arith

-- So if the next fragment begins at one and the same place after two lists of fragments that the file begins with, the
-- two lists end at the same offset.
one_end : (number : Option ℕ) (file : List ℕ) (xs ys : List Fragment) → HasFragments number file 0 xs → HasFragments number file 0 ys → next_place number (end_of number 0 xs) ≡ next_place number (end_of number 0 ys) → end_of number 0 xs ≡ end_of number 0 ys
one_end number file xs ys at_x at_y place =
    ⊎_elim (λ h. by_rest h.0 h.1) (λ h. absurd (not_longer number xs ys h.1 h.0 place h.2)) (both_stand number file 0 xs ys at_x at_y)
  where
    by_rest : (rest : List Fragment) → ys ≡ xs ++ rest → end_of number 0 xs ≡ end_of number 0 ys
    by_rest [] e = ap (end_of number 0) (sym (e ∙ append-nil xs))
    by_rest (z ∷ rest) e = absurd (not_longer number ys xs rest z (sym place) e)

-- the file begins with these fragments, and they end at this offset
record FromStart (number : Option ℕ) (file : List ℕ) (end : ℕ) : Type 0 where
  fs : List Fragment
  stand : HasFragments number file 0 fs
  ends : end_of number 0 fs ≡ end

-- the fragments of the kept records, and then those that follow them in the file
from_start : (number : Option ℕ) (file : List ℕ) (kept : ℕ) (bs : List Logged) (fs : List Fragment) → Keeps number file kept bs → HasFragments number file kept fs → FromStart number file (end_of number kept fs)
from_start number file kept bs fs keeps stand =
    let b = kept_begins number file kept bs keeps in
    let front = fragments number file kept (map logged_bytes bs) b in
    let end : end_of number 0 front ≡ kept = end_is number file kept (map logged_bytes bs) b in
    record {
      fs = front ++ fs;
      stand = stand_more number file 0 front fs (all_stand number file kept (map logged_bytes bs) b) (subst (λ n. HasFragments number file n fs) (sym end) stand);
      ends = omega (arith, end, ap length (placed_append number 0 front fs), length-append (fragments_text number 0 front) (fragments_text number (end_of number 0 front) fs), ap (λ (n : ℕ). length (fragments_text number n fs)) end);
    }

module _ (number : Option ℕ) (image file : List ℕ) (no_other : MeetsNoOther number image file) where
  -- After records that both the image and the file keep, a record that is in the image is in the file.
  module _ (kept : ℕ) (bs : List Logged) (in_image : Keeps number image kept bs) (in_file : Keeps number file kept bs) (g : List Fragment) (one : AreOneRecord (kinds_of g)) (stands : HasFragments number image kept g) where
    -- Recovery of the image meets the record's next fragment, and so does recovery of the file. In the file only the
    -- same fragments can be in front of it, so it is seen after them.
    seen_too : (pre post : List Fragment) (f : Fragment) → g ≡ pre ++ f ∷ post → HasFragments number file kept pre → (next_seen number file (end_of number kept pre)).seen ≡ fragment f
    seen_too pre post f e there =
        let end : ℕ = end_of number kept pre in
        let in_parts : HasFragments number image kept (pre ++ f ∷ post) = subst (HasFragments number image kept) e stands in
        let first = next_first number image end f post (stand_behind number image kept pre (f ∷ post) in_parts) in
        let met = no_other (next_place number end) f (record {
          kept = kept;
          batches = bs;
          keeps = in_image;
          fs = pre;
          comes = record { begun = begins pre f post (subst (λ (l : List Fragment). AreOneRecord (kinds_of l)) e one); stand = stand_front number image kept pre (f ∷ post) in_parts; is_next = sym first };
        }) in
        let other_end : ℕ = end_of number met.kept met.fs in
        let place : next_place number end ≡ next_place number other_end = next_begins number file other_end (next_place number end) f met.comes.is_next in
        let here = from_start number file kept bs pre in_file there in
        let others = from_start number file met.kept met.batches met.fs met.keeps met.comes.stand in
        let same : end ≡ other_end =
        sym here.ends ∙ (one_end number file here.fs others.fs here.stand others.stand (ap (next_place number) here.ends ∙ (place ∙ ap (next_place number) (sym others.ends))) ∙ others.ends) in
        ap (λ (n : Next). n.seen) (ap (next_seen number file) same ∙ sym met.comes.is_next)

    -- The record goes on after these fragments of the file, and its next fragment is what a reader sees there. For any
    -- fragments that are in the file there, either this holds or they begin with the whole record.
    record Longer (hs : List Fragment) : Type 0 where
      next : Fragment
      rest : List Fragment
      goes_on : g ≡ hs ++ next ∷ rest
      seen : (next_seen number file (end_of number kept hs)).seen ≡ fragment next

    compare : (hs : List Fragment) → HasFragments number file kept hs → (pre post later : List Fragment) → g ≡ pre ++ post → hs ≡ pre ++ later → ((rest : List Fragment) × (hs ≡ g ++ rest)) ⊎ Longer hs
    compare hs there pre [] later e e_hs = inl (later, e_hs ∙ ap (λ (l : List Fragment). l ++ later) (sym (e ∙ append-nil pre)))
    compare hs there pre (f ∷ post) [] e e_hs =
        let same : hs ≡ pre = e_hs ∙ append-nil pre in
        let goes_on : g ≡ hs ++ f ∷ post = e ∙ ap (λ (l : List Fragment). l ++ f ∷ post) (sym same) in
        inr (record { next = f; rest = post; goes_on = goes_on; seen = seen_too hs post f goes_on there })
    compare hs there pre (f ∷ post) (h ∷ later) e e_hs =
        let in_parts : HasFragments number file kept (pre ++ h ∷ later) = subst (HasFragments number file kept) e_hs there in
        let seen : (next_seen number file (end_of number kept pre)).seen ≡ fragment f = seen_too pre post f e (stand_front number file kept pre (h ∷ later) in_parts) in
        let first = next_first number file (end_of number kept pre) h later (stand_behind number file kept pre (h ∷ later) in_parts) in
        let both : fragment h ≡ fragment f = ap (λ (n : Next). n.seen) (sym first) ∙ seen in
        let same : h ≡ f = cc in
        compare hs there (pre ++ f ∷ []) post later (e ∙ sym (append_assoc pre (f ∷ []) post)) (e_hs ∙ (ap (λ (x : Fragment). pre ++ x ∷ later) same ∙ sym (append_assoc pre (f ∷ []) later)))

    by_longer : (hs : List Fragment) → HasFragments number file kept hs → (Longer hs → ⊥) → HasFragments number file kept g
    by_longer hs there no_longer =
        ⊎_elim (λ h. stand_front number file kept g h.0 (subst (HasFragments number file kept) h.1 there)) (λ longer. absurd (no_longer longer)) (compare hs there [] g hs refl refl)

    -- Where the file has a whole record there, it is this one.
    with_record : (hs : List Fragment) → AreOneRecord (kinds_of hs) → HasFragments number file kept hs → HasFragments number file kept g
    with_record hs one_h there =
        by_longer hs there (λ l. not_both (kinds_of hs) one_h (begins hs l.next l.rest (subst (λ (k : List Fragment). AreOneRecord (kinds_of k)) l.goes_on one)))

    -- Where reading of the file would end there, this record is there all the same, since it would go on.
    with_seen : (at : ℕ) (hs : List Fragment) (s : Seen) → ReadsThenSees number file kept hs (record { at = at; seen = s })
        → ((f : Fragment) → s ≡ fragment f → (AreBegun (kinds_of (hs ++ f ∷ [])) → ⊥) × (AreOneRecord (kinds_of (hs ++ f ∷ [])) → ⊥)) → HasFragments number file kept g
    with_seen at hs s comes stops = by_longer hs comes.stand (λ l. let none = stops l.next (ap (λ (n : Next). n.seen) comes.is_next ∙ l.seen) in by_rest l.next l.rest l.goes_on none.0 none.1)
      where
        by_rest : (f : Fragment) (rest : List Fragment) → g ≡ hs ++ f ∷ rest → (AreBegun (kinds_of (hs ++ f ∷ [])) → ⊥) → (AreOneRecord (kinds_of (hs ++ f ∷ [])) → ⊥) → ⊥
        by_rest f [] e not_begun not_one = not_one (subst (λ (k : List Fragment). AreOneRecord (kinds_of k)) e one)
        by_rest f (z ∷ rest) e not_begun not_one =
            not_begun (begins (hs ++ f ∷ []) z rest (subst (λ (k : List Fragment). AreOneRecord (kinds_of k)) (e ∙ sym (append_assoc hs (f ∷ []) (z ∷ rest))) one))

    with_end : (at : ℕ) (why : EndReason) → ReadingEnds number file kept at why → HasFragments number file kept g
    with_end at why (clean {at = p} c) = with_seen p [] nothing c (λ f e. absurd (cc))
    with_end at why (broken {at = p} {d = d} hs c) = with_seen p hs (damage d) c (λ f e. absurd (cc))
    with_end at why (bad_order {at = p} {f = f} hs c not_begun not_one) =
        with_seen p hs (fragment f) c (λ z e. let same : f ≡ z = cc in subst (λ (x : Fragment). (AreBegun (kinds_of (hs ++ x ∷ [])) → ⊥) × (AreOneRecord (kinds_of (hs ++ x ∷ [])) → ⊥)) same (not_begun, not_one))
    with_end at why (unfinished {at = p} h hs c) = with_seen p (h ∷ hs) nothing c (λ f e. absurd (cc))

    with_recovery_end : (last at : ℕ) (why : EndReason) → RecoveryEnds number file kept last at why → HasFragments number file kept g
    with_recovery_end last at why (reading e) = with_end _ _ e
    with_recovery_end last at why (record_read hs one_h there e) = with_record hs one_h there

  -- batches that both the image and the file keep, up to an offset
  record BothKeep (kept : ℕ) : Type 0 where
    batches : List Logged
    in_image : Keeps number image kept batches
    in_file : Keeps number file kept batches

  module _ (r s : Recovered) (of_file : IsRecovered number file r) (of_image : IsRecovered number image s) where
    -- after records that both keep, the file has the record that the image has
    stands_too : (kept : ℕ) (both : BothKeep kept) (g : List Fragment) → AreOneRecord (kinds_of g) → HasFragments number image kept g → HasFragments number file kept g
    stands_too kept both g one stands =
        cases_bool (nat_lt kept r.kept)
        (λ less.
        let next = more_kept number file kept r.kept both.batches r.batches both.in_file of_file.keeps (ltb-true kept r.kept less) in
        with_record kept both.batches both.in_image both.in_file g one stands next.fs next.one next.stands)
        (λ not_less.
        let all : r.kept ≡ kept = omega (arith, ltb-false kept r.kept not_less, of_file.most kept both.batches both.in_file) in
        with_recovery_end kept both.batches both.in_image both.in_file g one stands (recovered_last r) r.at r.why (subst (λ n. RecoveryEnds number file n (recovered_last r) r.at r.why) all of_file.ends))

    -- So the file keeps what the image keeps, one record after another.
    keeps_from : (fuel kept : ℕ) → BothKeep kept → s.kept < fuel + kept → BothKeep s.kept
    keeps_from zero kept both enough = absurd (omega (arith, enough, of_image.most kept both.batches both.in_image))
    keeps_from (suc fuel) kept both enough = cases_bool (nat_lt kept s.kept)
        (λ less.
        let next = more_kept number image kept s.kept both.batches s.batches both.in_image of_image.keeps (ltb-true kept s.kept less) in
        let m = next.may in
        let there = stands_too kept both next.fs next.one next.stands in
        let more : BothKeep (end_of number kept next.fs) = record {
          batches = both.batches ++ m.batch ∷ [];
          in_image = keeps_more number image kept both.batches m.batch next.fs both.in_image next.one next.stands (sym m.same) m.is m.may;
          in_file = keeps_more number file kept both.batches m.batch next.fs both.in_file next.one there (sym m.same) m.is m.may;
        } in
        keeps_from fuel (end_of number kept next.fs) more (omega (arith, enough, record_long number kept next.fs next.one)))
        (λ not_less.
        let all : kept ≡ s.kept = omega (arith, ltb-false kept s.kept not_less, of_image.most kept both.batches both.in_image) in
        subst BothKeep all both)

    -- What is recovered from the image is a prefix of what is recovered from the file.
    pub image_front : IsPrefix (map logged_bytes s.batches) (map logged_bytes r.batches) (λ n. ⊤)
    image_front =
        let both = keeps_from (suc s.kept) 0 (record { batches = []; in_image = keeps_none number image; in_file = keeps_none number file }) (omega arith) in
        let found = map logged_bytes s.batches in
        let records = map logged_bytes both.batches in
        let same : found ≡ records = spells_one number (take s.kept image) found records of_image.keeps.spelled both.in_image.spelled in
        let below : s.kept ≤ r.kept = of_file.most s.kept both.batches both.in_file in
        let front : List ℕ = take s.kept file in
        let behind : List ℕ = drop s.kept (take r.kept file) in
        let parts : take r.kept file ≡ front ++ behind = sym (take-append-drop s.kept (take r.kept file)) ∙ ap (λ (l : List ℕ). l ++ behind) (take-take s.kept r.kept file below) in
        let more = spells_front number (take r.kept file) front behind (map logged_bytes r.batches) records parts of_file.keeps.spelled both.in_file.spelled in
        record {
          many = length records;
          some = omega (arith, ap length more.1, length-append records more.0);
          same = same ∙ sym (ap (take (length records)) more.1 ∙ take-append_seam records more.0);
          enough = tt;
        }
