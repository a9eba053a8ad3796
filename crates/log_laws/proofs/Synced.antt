-- Bytes spell at most one list of records, and what was synced is recovered.
use Rattle.std.proofs.Common.{Option, ◌≡◌, ℕ, ◌≤◌, List, [], ◌∷◌, ◌++◌, length, take, drop, map, replicate, refl, sym, ◌∙◌, ap, subst, arith, length-append, append_assoc, zero-add}
use Rattle.std.proofs.Math.Seq.{take-take}
use Rattle.std.proofs.lemmas.List.{map-append, take-append-drop, append-nil}
use Rattle.std.specs.List.{AllByRecursion}
use Rattle.model_base.specs.Batch.{IsBatch}
use Rattle.model_base.specs.Log.{Fragment, fragment_bytes, trailer, next_place, fragments_text, FitFrom, all_fragments, record_of, SpellsWhole}
use Rattle.model_base.specs.Reading.{end_of, seen_at}
use Rattle.model_base.specs.Recovery.{Logged, logged_bytes, AreInOrder, Recovered, IsRecovered, HasFragment}
use Rattle.log_laws.proofs.Next.{seen_laid}
use Rattle.log_laws.proofs.Placed.{length_map, behind, placed_append, fit_back}
use Rattle.log_laws.proofs.Agree.{are_front}
use Rattle.log_laws.proofs.Crash.{groups_front}

-- The fragments that a prefix of some bytes spells are a prefix of those that all the bytes spell.
pub groups_spelled : (number : Option ℕ) → (bytes front more : List ℕ) (all some : List (List ℕ)) → bytes ≡ front ++ more → (whole : SpellsWhole number bytes all) (part : SpellsWhole number front some)
    → (rest : List (List Fragment)) × (whole.groups ≡ part.groups ++ rest)
groups_spelled number bytes front more all some e whole part =
    let has : (pre : List Fragment) (f : Fragment) (post : List Fragment) → all_fragments part.groups ≡ pre ++ f ∷ post → HasFragment number bytes (next_place number (end_of number 0 pre)) f =
    λ pre f post split.
    let zeros_and_f = replicate (trailer number (end_of number 0 pre)) 0 ++ fragment_bytes number f in
    let later = fragments_text number (behind number (end_of number 0 pre) f) post in
    let laid : bytes ≡ fragments_text number 0 pre ++ (zeros_and_f ++ (later ++ more)) =
    e ∙ ap (λ (l : List ℕ). l ++ more) (part.spelled ∙ ap (fragments_text number 0) split ∙ placed_append number 0 pre (f ∷ post)) ∙ append_assoc (fragments_text number 0 pre) (zeros_and_f ++ later) more ∙ ap (λ (l : List ℕ). fragments_text number 0 pre ++ l) (append_assoc zeros_and_f later more) in
    ap (λ (file : List ℕ). seen_at number file (next_place number (end_of number 0 pre))) laid
    ∙ seen_laid number (fragments_text number 0 pre) (later ++ more) f (end_of number 0 pre) (sym (zero-add (length (fragments_text number 0 pre)))) (fit_back number 0 pre (f ∷ post) (subst (FitFrom number 0) split part.fit)).0 in
    let flat = are_front number bytes [] 0 (all_fragments whole.groups) (all_fragments part.groups) whole.spelled refl whole.fit has in
    groups_front part.groups whole.groups flat.0 part.whole whole.whole flat.1

-- So the records that the prefix spells are a prefix of those that all the bytes spell.
pub spells_front : (number : Option ℕ) → (bytes front more : List ℕ) (all some : List (List ℕ)) → bytes ≡ front ++ more → SpellsWhole number bytes all → SpellsWhole number front some → (rest : List (List ℕ)) × (all ≡ some ++ rest)
spells_front number bytes front more all some e whole part =
    let groups = groups_spelled number bytes front more all some e whole part in (
      map record_of groups.0,
      whole.same ∙ ap (map record_of) groups.1 ∙ map-append record_of part.groups groups.0 ∙ ap (λ (l : List (List ℕ)). l ++ map record_of groups.0) (sym part.same),
    )

-- Bytes spell at most one list.
pub spells_one : (number : Option ℕ) → (bytes : List ℕ) (rs qs : List (List ℕ)) → SpellsWhole number bytes rs → SpellsWhole number bytes qs → rs ≡ qs
spells_one number bytes rs qs a b =
    let one = spells_front number bytes bytes [] rs qs (sym (append-nil bytes)) a b in
    let other = spells_front number bytes bytes [] qs rs (sym (append-nil bytes)) b a in
    let none : one.0 ≡ [] = no_length one.0 (omega (arith, ap length one.1, ap length other.1, length-append qs one.0, length-append rs other.0)) in
    one.1 ∙ ap (λ (l : List (List ℕ)). qs ++ l) none ∙ append-nil qs
  where
    no_length : (l : List (List ℕ)) → length l ≡ 0 → l ≡ []
    no_length [] e = refl
    no_length (x ∷ l) e = absurd (omega (arith, e))

-- The batches in the synced bytes are recovered.
pub holds_synced : (number : Option ℕ) → (image whole : List ℕ) (synced : List (List ℕ)) (batches : List Logged) (r : Recovered) → SpellsWhole number whole synced → IsRecovered number image r → length whole ≤ length image → take (length whole) image ≡ whole
    → map logged_bytes batches ≡ synced → AllByRecursion (λ b. IsBatch (logged_bytes b) b.first b.records) batches → AreInOrder 0 batches → length batches ≤ length r.batches
holds_synced number image whole synced batches r spells is within front same are ordered =
    let s = length whole in
    let spelled : SpellsWhole number (take s image) (map logged_bytes batches) = subst (λ bytes. SpellsWhole number bytes (map logged_bytes batches)) (sym front) (subst (λ rs. SpellsWhole number whole rs) (sym same) spells) in
    let below : s ≤ r.kept = is.most s batches (record { within = within; spelled = spelled; are_batches = are; in_order = ordered }) in
    let parts : take r.kept image ≡ take s image ++ drop s (take r.kept image) = sym (take-append-drop s (take r.kept image)) ∙ ap (λ (l : List ℕ). l ++ drop s (take r.kept image)) (take-take s r.kept image below) in
    let more = spells_front number (take r.kept image) (take s image) (drop s (take r.kept image)) (map logged_bytes r.batches) (map logged_bytes batches) parts is.keeps.spelled spelled in
    omega (arith, ap length more.1, length-append (map logged_bytes batches) more.0, length_map logged_bytes batches, length_map logged_bytes r.batches)
