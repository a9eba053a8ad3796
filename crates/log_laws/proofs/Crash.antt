-- If nothing matches by chance, what is read of an image is a prefix of what was written.
use Rattle.std.proofs.Common.{Option, ◌≡◌, ◌⊎◌, inl, inr, ⊎_elim, ℕ, ◌≤◌, List, [], ◌∷◌, ◌++◌, length, take, drop, map, replicate, refl, sym, ◌∙◌, ap, subst, arith, length-append, append_assoc, zero-add}
use Rattle.std.proofs.Math.Seq.{take-append_seam, drop-append_seam}
use Rattle.std.proofs.lemmas.List.{take-append-drop, append_cancel_left, map-append}
use Rattle.std.specs.List.{AllByRecursion}
use Rattle.model_base.specs.Log.{Kind, full, first, middle, last, Fragment, fragment_bytes, trailer, next_place, fragments_text, FitFrom, GoesToLast, AreOneRecord, kinds_of, all_fragments, record_of, SpellsWhole}
use Rattle.model_base.specs.Reading.{fragment, next_seen, end_of, AreBegun}
use Rattle.model_base.specs.Recovery.{ReaderMeets, NoChanceForReader}
use Rattle.log_laws.proofs.Next.{next_laid}
use Rattle.log_laws.proofs.Placed.{length_map, behind, placed_append, fit_front, fit_back, begins}
use Rattle.log_laws.proofs.Agree.{Whole, are_front, Split, split_groups}

end_append : (number : Option ℕ) → (offset : ℕ) (xs ys : List Fragment) → end_of number offset (xs ++ ys) ≡ end_of number (end_of number offset xs) ys
end_append number offset xs ys = omega (arith, ap length (placed_append number offset xs ys), length-append (fragments_text number offset xs) (fragments_text number (end_of number offset xs) ys))

-- the reader met each fragment of the records that it read
module _ (number : Option ℕ) (image : List ℕ) (kept : ℕ) (records : List (List ℕ)) (within : kept ≤ length image) (read : SpellsWhole number (take kept image) records) (pre post : List Fragment) (f : Fragment) (split : all_fragments read.groups ≡ pre ++ f ∷ post) where
  tail : List ℕ
  tail = drop kept image

  all : image ≡ fragments_text number 0 (pre ++ f ∷ post) ++ tail
  unfolding tail
  all = sym (take-append-drop kept image) ∙ ap (λ (l : List ℕ). l ++ drop kept image) (read.spelled ∙ ap (fragments_text number 0) split)

  -- the image in two parts, wherever the fragments are split
  parts : (xs ys : List Fragment) → pre ++ f ∷ post ≡ xs ++ ys → image ≡ fragments_text number 0 xs ++ (fragments_text number (end_of number 0 xs) ys ++ tail)
  parts xs ys e = all ∙ ap (λ (fs : List Fragment). fragments_text number 0 fs ++ tail) e ∙ ap (λ (l : List ℕ). l ++ tail) (placed_append number 0 xs ys) ∙ append_assoc (fragments_text number 0 xs) (fragments_text number (end_of number 0 xs) ys) tail

  fit_all : FitFrom number 0 (pre ++ f ∷ post)
  fit_all = subst (FitFrom number 0) split read.fit

  seen_next : next_seen number image (end_of number 0 pre) ≡ record { at = next_place number (end_of number 0 pre); seen = fragment f }
  seen_next =
      let offset = end_of number 0 pre in
      let zeros_and_f = replicate (trailer number offset) 0 ++ fragment_bytes number f in
      let later = fragments_text number (behind number offset f) post in
      ap (λ (file : List ℕ). next_seen number file offset) (parts pre (f ∷ post) refl ∙ ap (λ (l : List ℕ). fragments_text number 0 pre ++ l) (append_assoc zeros_and_f later tail))
      ∙ next_laid number (fragments_text number 0 pre) (later ++ tail) f offset (sym (zero-add (length (fragments_text number 0 pre)))) (fit_back number 0 pre (f ∷ post) fit_all).0

  met_with : Split read.groups pre → ReaderMeets number image (next_place number (end_of number 0 pre)) f
  met_with s =
      let done = all_fragments s.done in
      let to_end : end_of number 0 done ≡ length (fragments_text number 0 done) = zero-add (length (fragments_text number 0 done)) in
      let cut : pre ++ f ∷ post ≡ done ++ (s.begun ++ f ∷ post) = ap (λ (l : List Fragment). l ++ f ∷ post) s.pre_is ∙ append_assoc done s.begun (f ∷ post) in
      let image_is : image ≡ fragments_text number 0 done ++ (fragments_text number (end_of number 0 done) (s.begun ++ f ∷ post) ++ tail) = parts done (s.begun ++ f ∷ post) cut in
      let fit_cut : FitFrom number 0 (done ++ (s.begun ++ f ∷ post)) = subst (FitFrom number 0) cut fit_all in
      let same_end : end_of number 0 pre ≡ end_of number (end_of number 0 done) s.begun = ap (end_of number 0) s.pre_is ∙ end_append number 0 done s.begun in
      record {
        kept = end_of number 0 done;
        records = map record_of s.done;
        within = omega (arith, to_end, ap length image_is, length-append (fragments_text number 0 done) (fragments_text number (end_of number 0 done) (s.begun ++ f ∷ post) ++ tail));
        spelled = record {
          groups = s.done;
          whole = s.whole;
          same = refl;
          fit = fit_front number 0 done (s.begun ++ f ∷ post) fit_cut;
          spelled = ap (λ (n : ℕ). take n image) to_end ∙ ap (take (length (fragments_text number 0 done))) image_is ∙ take-append_seam (fragments_text number 0 done) (fragments_text number (end_of number 0 done) (s.begun ++ f ∷ post) ++ tail);
        };
        fs = s.begun;
        comes = record {
          begun = s.begins;
          stand = record {
            rest = fragments_text number (end_of number (end_of number 0 done) s.begun) (f ∷ post) ++ tail;
            there = ap (λ (n : ℕ). drop n image) to_end ∙ ap (drop (length (fragments_text number 0 done))) image_is ∙ drop-append_seam (fragments_text number 0 done) (fragments_text number (end_of number 0 done) (s.begun ++ f ∷ post) ++ tail)
                ∙ ap (λ (l : List ℕ). l ++ tail) (placed_append number (end_of number 0 done) s.begun (f ∷ post)) ∙ append_assoc (fragments_text number (end_of number 0 done) s.begun) (fragments_text number (end_of number (end_of number 0 done) s.begun) (f ∷ post)) tail;
            fit = fit_front number (end_of number 0 done) s.begun (f ∷ post) (fit_back number 0 done (s.begun ++ f ∷ post) fit_cut);
          };
          is_next = sym seen_next ∙ ap (next_seen number image) same_end;
        };
      }

  pub met : ReaderMeets number image (next_place number (end_of number 0 pre)) f
  met = met_with (split_groups read.groups read.whole pre f post split)

  -- the records before this fragment are the first of the records that were read
  front_of : (s : Split read.groups pre) → (met_with s).records ≡ take (length s.done) records
  unfolding met_with
  front_of s =
      let all_records : records ≡ map record_of s.done ++ map record_of s.later = read.same ∙ ap (map record_of) s.groups_are ∙ map-append record_of s.done s.later in
      sym (ap (take (length s.done)) all_records ∙ ap (λ (n : ℕ). take n (map record_of s.done ++ map record_of s.later)) (sym (length_map record_of s.done)) ∙ take-append_seam (map record_of s.done) (map record_of s.later))

  pub met_front : (m : ReaderMeets number image (next_place number (end_of number 0 pre)) f) × ((n : ℕ) × (m.records ≡ take n records))
  met_front = let s = split_groups read.groups read.whole pre f post split in (met_with s, (length s.done, front_of s))

-- Two lists of whole records, where the fragments of one are a prefix of the other's

pub not_both : (kinds : List Kind) → AreOneRecord kinds → AreBegun kinds → ⊥
not_both [] one begun = one
not_both (full ∷ kinds) one begun = begun
not_both (first ∷ kinds) one begun = not_to_last kinds one begun
  where
    not_to_last : (kinds : List Kind) → GoesToLast kinds → AllByRecursion (λ k. k ≡ middle) kinds → ⊥
    not_to_last [] goes all = goes
    not_to_last (middle ∷ kinds) goes all = not_to_last kinds goes all.1
    not_to_last (last ∷ kinds) goes all = let wrong : last ≡ middle = all.0 in absurd (cc)
    not_to_last (full ∷ kinds) goes all = goes
    not_to_last (first ∷ kinds) goes all = goes
not_both (middle ∷ kinds) one begun = one
not_both (last ∷ kinds) one begun = one

-- two prefixes of one list are the same, or one of them goes on
compare_fronts : (g h x y : List Fragment) → g ++ x ≡ h ++ y
    → (g ≡ h) ⊎ (((z : Fragment) × (q : List Fragment) × (g ≡ h ++ z ∷ q)) ⊎ ((z : Fragment) × (q : List Fragment) × (h ≡ g ++ z ∷ q)))
compare_fronts [] [] x y e = inl refl
compare_fronts [] (b ∷ h) x y e = inr (inr (b, h, refl))
compare_fronts (a ∷ g) [] x y e = inr (inl (a, g, refl))
compare_fronts (a ∷ g) (b ∷ h) x y e =
    let heads : a ≡ b = cc in
    let tails : g ++ x ≡ h ++ y = cc in
    let onto = λ (l : List Fragment). a ∷ l in
    ⊎_elim (λ same. inl (ap onto same ∙ ap (λ (f : Fragment). f ∷ h) heads))
    (λ longer. inr (⊎_elim (λ l. inl (l.0, l.1, ap onto l.2 ∙ ap (λ (f : Fragment). f ∷ (h ++ l.0 ∷ l.1)) heads)) (λ l. inr (l.0, l.1, ap (λ (f : Fragment). f ∷ h) (sym heads) ∙ ap onto l.2)) longer))
    (compare_fronts g h x y tails)

one_record : (g h x y : List Fragment) → AreOneRecord (kinds_of g) → AreOneRecord (kinds_of h) → g ++ x ≡ h ++ y → g ≡ h
one_record g h x y one_g one_h e =
    ⊎_elim (λ same. same)
    (λ longer. absurd (⊎_elim (λ l. not_both (kinds_of h) one_h (begins h l.0 l.1 (subst (λ l. AreOneRecord (kinds_of l)) l.2 one_g))) (λ l. not_both (kinds_of g) one_g (begins g l.0 l.1 (subst (λ l. AreOneRecord (kinds_of l)) l.2 one_h))) longer))
    (compare_fronts g h x y e)

pub groups_front : (gs hs : List (List Fragment)) (rest : List Fragment) → Whole gs → Whole hs → all_fragments hs ≡ all_fragments gs ++ rest → (more : List (List Fragment)) × (hs ≡ gs ++ more)
groups_front [] hs rest whole_g whole_h e = (hs, refl)
groups_front ([] ∷ gs) [] rest whole_g whole_h e = absurd whole_g.0
groups_front ((f ∷ g) ∷ gs) [] rest whole_g whole_h e = absurd (cc)
groups_front (g ∷ gs) (h ∷ hs) rest whole_g whole_h e =
    let joined : h ++ all_fragments hs ≡ g ++ (all_fragments gs ++ rest) = e ∙ append_assoc g (all_fragments gs) rest in
    let same : h ≡ g = one_record h g (all_fragments hs) (all_fragments gs ++ rest) whole_h.0 whole_g.0 joined in
    let later : all_fragments hs ≡ all_fragments gs ++ rest = append_cancel_left g (all_fragments hs) (all_fragments gs ++ rest) (ap (λ (l : List Fragment). l ++ all_fragments hs) (sym same) ∙ joined) in
    let more = groups_front gs hs rest whole_g.1 whole_h.1 later in
    (more.0, ap (λ (l : List Fragment). l ∷ hs) same ∙ ap (λ (l : List (List Fragment)). g ∷ l) more.1)

-- If no checksum is right by chance, what a crash leaves is read as a prefix of the records that were written.
pub reads_front : (number : Option ℕ) → (image text : List ℕ) (kept : ℕ) (records written : List (List ℕ)) → SpellsWhole number text written → kept ≤ length image → SpellsWhole number (take kept image) records
    → NoChanceForReader number image text → records ≡ take (length records) written
reads_front number image text kept records written spells within read no_chance =
    let flat = are_front number text [] 0 (all_fragments spells.groups) (all_fragments read.groups) spells.spelled refl spells.fit (λ pre f post split. no_chance (next_place number (end_of number 0 pre)) f (met number image kept records within read pre post f split)) in
    let groups = groups_front read.groups spells.groups flat.0 read.whole spells.whole flat.1 in
    let all_records : written ≡ records ++ map record_of groups.0 =
    spells.same ∙ ap (map record_of) groups.1 ∙ map-append record_of read.groups groups.0 ∙ ap (λ (l : List (List ℕ)). l ++ map record_of groups.0) (sym read.same) in
    sym (ap (take (length records)) all_records ∙ take-append_seam records (map record_of groups.0))
