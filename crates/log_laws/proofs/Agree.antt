-- If a reader meets only fragments that a text has at the same places, it reads a prefix of the text.
use Rattle.std.proofs.Common.{Option, ◌≡◌, ⊎_elim, ℕ, List, [], ◌∷◌, ◌++◌, length, replicate, refl, sym, ◌∙◌, ap, subst, arith, length-append, append_assoc}
use Rattle.std.proofs.Math.ListN.{length-replicate}
use Rattle.std.proofs.lemmas.List.{append-nil}
use Rattle.std.specs.List.{AllByRecursion}
use Rattle.model_base.specs.Log.{Fragment, fragment_bytes, trailer, next_place, fragments_text, FitFrom, AreOneRecord, kinds_of, all_fragments}
use Rattle.model_base.specs.Reading.{fragment, nothing, seen_at, end_of, AreBegun}
use Rattle.model_base.specs.Recovery.{HasFragment}
use Rattle.log_laws.proofs.Next.{fragment_len, seen_laid, seen_past}
use Rattle.log_laws.proofs.Placed.{behind, end_none, end_more, split_joined, begins}

abbrev pub Whole : List (List Fragment) → Type 0
Whole groups = AllByRecursion (λ fs. AreOneRecord (kinds_of fs)) groups

-- A list of fragments that a text has at their places is a prefix of the text's fragments.
pub are_front : (number : Option ℕ) → (text front : List ℕ) (offset : ℕ) (ts fs : List Fragment) → text ≡ front ++ fragments_text number offset ts → length front ≡ offset → FitFrom number offset ts
    → ((pre : List Fragment) (f : Fragment) (post : List Fragment) → fs ≡ pre ++ f ∷ post → HasFragment number text (next_place number (end_of number offset pre)) f)
    → (rest : List Fragment) × (ts ≡ fs ++ rest)
are_front number text front offset ts [] e at fit has = (ts, refl)
are_front number text front offset [] (f ∷ fs) e at fit has =
    let none : seen_at number text (next_place number offset) ≡ nothing = seen_past number text (next_place number offset) (omega (arith, ap length (e ∙ append-nil front), at)) in
    let some : seen_at number text (next_place number offset) ≡ fragment f = subst (λ n. seen_at number text (next_place number n) ≡ fragment f) (end_none number offset) (has [] f fs refl) in
    let wrong : nothing ≡ fragment f = sym none ∙ some in absurd (cc)
are_front number text front offset (t ∷ ts) (f ∷ fs) e at fit has =
    let some : seen_at number text (next_place number offset) ≡ fragment f = subst (λ n. seen_at number text (next_place number n) ≡ fragment f) (end_none number offset) (has [] f fs refl) in
    let seen : seen_at number text (next_place number offset) ≡ fragment t = ap (λ (bytes : List ℕ). seen_at number bytes (next_place number offset)) e ∙ seen_laid number front (fragments_text number (behind number offset t) ts) t offset at fit.0 in
    let both : fragment t ≡ fragment f = sym seen ∙ some in
    let same : t ≡ f = cc in
    let more = replicate (trailer number offset) 0 ++ fragment_bytes number t in
    let rest = are_front number text (front ++ more) (behind number offset t) ts fs (e ∙ sym (append_assoc front more (fragments_text number (behind number offset t) ts)))
    (omega (arith, length-append front more, length-append (replicate (trailer number offset) 0) (fragment_bytes number t), length-replicate {A = ℕ} (trailer number offset) 0, fragment_len number t, at)) fit.1
    (λ pre g post split. subst (λ n. HasFragment number text (next_place number n) g) (end_more number offset f pre ∙ ap (λ (x : Fragment). end_of number (behind number offset x) pre) (sym same)) (has (f ∷ pre) g post (ap (λ (l : List Fragment). f ∷ l) split))) in
    (rest.0, ap (λ (x : Fragment). x ∷ ts) same ∙ ap (λ (l : List Fragment). f ∷ l) rest.1)

-- a prefix of several records' fragments, split: whole records, and then the first fragments of the next one
pub record Split (groups : List (List Fragment)) (pre : List Fragment) : Type 0 where
  pub done : List (List Fragment)
  pub later : List (List Fragment)
  pub begun : List Fragment
  pub groups_are : groups ≡ done ++ later
  pub pre_is : pre ≡ all_fragments done ++ begun
  pub whole : Whole done
  pub begins : AreBegun (kinds_of begun)

pub split_groups : (groups : List (List Fragment)) → Whole groups → (pre : List Fragment) (f : Fragment) (post : List Fragment) → all_fragments groups ≡ pre ++ f ∷ post → Split groups pre
split_groups [] whole [] f post e = absurd (cc)
split_groups [] whole (p ∷ pre) f post e = absurd (cc)
split_groups (g ∷ groups) whole pre f post e =
    ⊎_elim (λ h. let s = split_groups groups whole.1 h.0 f post h.2 in record {
      done = g ∷ s.done;
      later = s.later;
      begun = s.begun;
      groups_are = ap (λ (l : List (List Fragment)). g ∷ l) s.groups_are;
      pre_is = h.1 ∙ ap (λ (l : List Fragment). g ++ l) s.pre_is ∙ sym (append_assoc g (all_fragments s.done) s.begun);
      whole = (whole.0, s.whole);
      begins = s.begins;
    })
    (λ h. record { done = []; later = g ∷ groups; begun = pre; groups_are = refl; pre_is = refl; whole = tt; begins = begins pre f h.0 (subst (λ l. AreOneRecord (kinds_of l)) h.1 whole.0) })
    (split_joined g (all_fragments groups) pre post f e)
