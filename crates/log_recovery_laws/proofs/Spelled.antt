-- The records that a file begins with: how one more is added, and which one comes next.
use Rattle.std.proofs.Common.{Option, ◌≡◌, ⊎_elim, ℕ, ◌+◌, ◌<◌, ◌≤◌, List, [], ◌∷◌, ◌++◌, length, take, drop, map, refl, sym, ◌∙◌, ap, subst, arith, length-append, length-take, length-drop, append_assoc, zero-add}
use Rattle.std.proofs.Math.Seq.{take-append_seam, take-add}
use Rattle.std.proofs.lemmas.Grind.{flat_map-append}
use Rattle.std.proofs.lemmas.List.{take-append-drop, append-nil, map-append}
use Rattle.std.specs.List.{AllByRecursion}
use Rattle.model_base.specs.Log.{Fragment, fragments_text, FitFrom, AreOneRecord, kinds_of, record_of, all_fragments, SpellsWhole}
use Rattle.model_base.specs.Reading.{end_of, HasFragments}
use Rattle.log_laws.proofs.Placed.{placed_append, fit_front}
use Rattle.log_laws.proofs.Agree.{Whole}
use Rattle.log_laws.proofs.Crash.{groups_front}
use Rattle.log_laws.proofs.Written.{fit_joined}
use Rattle.log_laws.proofs.ReadSynced.{both_stand, stand_behind, whole_last}

-- The first bytes of the file, up to `kept`, spell these records.
pub record Begins (number : Option ℕ) (file : List ℕ) (kept : ℕ) (records : List (List ℕ)) : Type 0 where
  pub within : kept ≤ length file
  pub spelled : SpellsWhole number (take kept file) records

pub begins_none : (number : Option ℕ) (file : List ℕ) → Begins number file 0 []
begins_none number file = record { within = omega arith; spelled = record { groups = []; whole = tt; same = refl; fit = tt; spelled = refl } }

-- the fragments of these records
module _ (number : Option ℕ) (file : List ℕ) (kept : ℕ) (records : List (List ℕ)) (b : Begins number file kept records) where
  pub fragments : List Fragment
  fragments = all_fragments b.spelled.groups

  pub end_is : end_of number 0 fragments ≡ kept
  unfolding fragments
  end_is = zero-add (length (fragments_text number 0 fragments)) ∙ sym (ap length b.spelled.spelled) ∙ omega (arith, length-take kept file, b.within)

  pub all_stand : HasFragments number file 0 fragments
  unfolding fragments
  all_stand = record { rest = drop kept file; there = sym (take-append-drop kept file) ∙ ap (λ (l : List ℕ). l ++ drop kept file) b.spelled.spelled; fit = b.spelled.fit }

-- What holds for all of a list and for one more element holds for the longer list.
pub all_more : {A : Type 0} (P : A → Type 0) (xs : List A) (x : A) → AllByRecursion P xs → P x → AllByRecursion P (xs ++ x ∷ [])
all_more P [] x all one = (one, tt)
all_more P (y ∷ ys) x all one = (all.0, all_more P ys x all.1 one)

-- If a record follows these records in the file, the file begins with all of them and it.
pub begins_more : (number : Option ℕ) (file : List ℕ) (kept : ℕ) (records : List (List ℕ)) (fs : List Fragment) → Begins number file kept records → AreOneRecord (kinds_of fs) → HasFragments number file kept fs
    → Begins number file (end_of number kept fs) (records ++ record_of fs ∷ [])
unfolding fragments
begins_more number file kept records fs b one stands =
    let groups = b.spelled.groups in
    let flat : List Fragment = all_fragments groups in
    let piece : List ℕ = fragments_text number kept fs in
    let end : end_of number 0 flat ≡ kept = end_is number file kept records b in
    let joined : all_fragments (groups ++ fs ∷ []) ≡ flat ++ fs = flat_map-append (λ (l : List Fragment). l) groups (fs ∷ []) ∙ ap (λ (l : List Fragment). flat ++ l) (append-nil fs) in
    let taken : take (kept + length piece) file ≡ take kept file ++ piece =
    take-add kept (length piece) file ∙ ap (λ (l : List ℕ). take kept file ++ take (length piece) l) stands.there ∙ ap (λ (l : List ℕ). take kept file ++ l) (take-append_seam piece stands.rest) in
    let laid : fragments_text number 0 (flat ++ fs) ≡ fragments_text number 0 flat ++ piece = placed_append number 0 flat fs ∙ ap (λ (n : ℕ). fragments_text number 0 flat ++ fragments_text number n fs) end in
    record {
      within = omega (arith, b.within, length-drop kept file, ap length stands.there, length-append piece stands.rest);
      spelled = record {
        groups = groups ++ fs ∷ [];
        whole = all_more (λ l. AreOneRecord (kinds_of l)) groups fs b.spelled.whole one;
        same = ap (λ (l : List (List ℕ)). l ++ record_of fs ∷ []) b.spelled.same ∙ sym (map-append record_of groups (fs ∷ []));
        fit = subst (FitFrom number 0) (sym joined) (fit_joined number 0 flat fs b.spelled.fit (subst (λ n. FitFrom number n fs) (sym end) stands.fit));
        spelled = taken ∙ ap (λ (l : List ℕ). l ++ piece) b.spelled.spelled ∙ sym laid ∙ ap (fragments_text number 0) (sym joined);
      };
    }

-- this record follows the records in the file, and the others are the records, then it, then more
pub record NextRecord (number : Option ℕ) (file : List ℕ) (kept : ℕ) (records others : List (List ℕ)) : Type 0 where
  pub fs : List Fragment
  pub one : AreOneRecord (kinds_of fs)
  pub stands : HasFragments number file kept fs
  pub more : List (List ℕ)
  pub others_are : others ≡ records ++ record_of fs ∷ more

pub stand_front : (number : Option ℕ) (file : List ℕ) (offset : ℕ) (xs ys : List Fragment) → HasFragments number file offset (xs ++ ys) → HasFragments number file offset xs
stand_front number file offset xs ys s = record {
  rest = fragments_text number (end_of number offset xs) ys ++ s.rest;
  there = s.there ∙ ap (λ (l : List ℕ). l ++ s.rest) (placed_append number offset xs ys) ∙ append_assoc (fragments_text number offset xs) (fragments_text number (end_of number offset xs) ys) s.rest;
  fit = fit_front number offset xs ys s.fit;
}

pub no_shorter : (number : Option ℕ) (xs ys rest : List Fragment) → xs ≡ ys ++ rest → end_of number 0 ys ≤ end_of number 0 xs
no_shorter number xs ys rest e =
    omega (arith, ap length (ap (fragments_text number 0) e ∙ placed_append number 0 ys rest), length-append (fragments_text number 0 ys) (fragments_text number (end_of number 0 ys) rest))

-- If other records that the file begins with reach further, there is such a next record.
pub next_record : (number : Option ℕ) (file : List ℕ) (kept further : ℕ) (records others : List (List ℕ)) → Begins number file kept records → Begins number file further others → kept < further → NextRecord number file kept records others
unfolding fragments
next_record number file kept further records others a b less =
    ⊎_elim
    (λ h. let more = groups_front a.spelled.groups b.spelled.groups h.0 a.spelled.whole b.spelled.whole h.1 in by_more more.0 more.1)
    (λ h. absurd (omega (arith, no_shorter number _ _ (h.0 ∷ h.1) h.2, end_is number file kept records a, end_is number file further others b, less)))
    (both_stand number file 0 (fragments number file kept records a) (fragments number file further others b) (all_stand number file kept records a) (all_stand number file further others b))
  where
    by_more : (more : List (List Fragment)) → b.spelled.groups ≡ a.spelled.groups ++ more → NextRecord number file kept records others
    by_more [] e =
        let same : b.spelled.groups ≡ a.spelled.groups = e ∙ append-nil a.spelled.groups in
        absurd (omega (arith, ap (λ (gs : List (List Fragment)). end_of number 0 (all_fragments gs)) same, end_is number file kept records a, end_is number file further others b, less))
    by_more (g ∷ more) e =
        let front : List Fragment = all_fragments a.spelled.groups in
        let flat : all_fragments b.spelled.groups ≡ front ++ (g ++ all_fragments more) = ap all_fragments e ∙ flat_map-append (λ (l : List Fragment). l) a.spelled.groups (g ∷ more) in
        let there : HasFragments number file kept (g ++ all_fragments more) =
        subst (λ n. HasFragments number file n (g ++ all_fragments more)) (end_is number file kept records a) (stand_behind number file 0 front (g ++ all_fragments more) (subst (HasFragments number file 0) flat (all_stand number file further others b))) in
        record {
          fs = g;
          one = whole_last a.spelled.groups g more (subst Whole e b.spelled.whole);
          stands = stand_front number file kept g (all_fragments more) there;
          more = map record_of more;
          others_are = b.spelled.same ∙ (ap (map record_of) e ∙ (map-append record_of a.spelled.groups (g ∷ more) ∙ ap (λ (l : List (List ℕ)). l ++ record_of g ∷ map record_of more) (sym a.spelled.same)));
        }
