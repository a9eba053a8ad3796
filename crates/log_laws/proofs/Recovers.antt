-- If nothing matches by chance, what is recovered of an image is a prefix of what was written.
use Rattle.std.proofs.Common.{Option, ◌≡◌, ℕ, zero, suc, List, [], ◌∷◌, ◌++◌, length, take, map, refl, sym, ◌∙◌, ap, subst}
use Rattle.std.proofs.Math.Seq.{take-append_seam}
use Rattle.std.proofs.lemmas.List.{map-append, take-map}
use Rattle.std.specs.List.{AllByRecursion}
use Rattle.model_base.specs.Batch.{IsBatch}
use Rattle.model_base.specs.Log.{Fragment, next_place, all_fragments, record_of, SpellsWhole}
use Rattle.model_base.specs.Reading.{end_of}
use Rattle.model_base.specs.Recovery.{Logged, logged_bytes, AreInOrder, last_after, Keeps, Recovered, IsRecovered, Meets, ReaderMeets, NoChance}
use Rattle.log_laws.proofs.Placed.{length_map}
use Rattle.log_laws.proofs.Agree.{are_front}
use Rattle.log_laws.proofs.Crash.{met_front, groups_front}

all_take : {A : Type 0} (P : A → Type 0) (n : ℕ) (xs : List A) → AllByRecursion P xs → AllByRecursion P (take n xs)
all_take P zero xs all = tt
all_take P (suc n) [] all = all
all_take P (suc n) (x ∷ xs) all = (all.0, all_take P n xs all.1)

in_order_take : (last n : ℕ) (bs : List Logged) → AreInOrder last bs → AreInOrder last (take n bs)
in_order_take last zero bs ordered = tt
in_order_take last (suc n) [] ordered = ordered
in_order_take last (suc n) (b ∷ bs) ordered = (ordered.0, in_order_take (last_after last b) n bs ordered.1)

-- if the records before the reader's fragment are the first of the kept ones, recovery met that fragment too
meets : (number : Option ℕ) → (image : List ℕ) (kept place : ℕ) (batches : List Logged) (f : Fragment) (n : ℕ) → Keeps number image kept batches → (m : ReaderMeets number image place f) → m.records ≡ take n (map logged_bytes batches) → Meets number image place f
meets number image kept place batches f n keeps m front = record {
  kept = m.kept;
  batches = take n batches;
  keeps = record {
    within = m.within;
    spelled = subst (λ rs. SpellsWhole number (take m.kept image) rs) (front ∙ take-map logged_bytes n batches) m.spelled;
    are_batches = all_take (λ b. IsBatch (logged_bytes b) b.first b.records) n batches keeps.are_batches;
    in_order = in_order_take 0 n batches keeps.in_order;
  };
  fs = m.fs;
  comes = m.comes;
}

-- What recovery keeps of an image is a prefix of the batches that were written, none left out and none in part.
pub keeps_front : (number : Option ℕ) → (image whole : List ℕ) (kept : ℕ) (batches : List Logged) (written : List (List ℕ)) → SpellsWhole number whole written → Keeps number image kept batches → NoChance number image whole
    → map logged_bytes batches ≡ take (length batches) written
keeps_front number image whole kept batches written spells keeps no_chance =
    let read = keeps.spelled in
    let records = map logged_bytes batches in
    let flat = are_front number whole [] 0 (all_fragments spells.groups) (all_fragments read.groups) spells.spelled refl spells.fit
    (λ pre f post split. let m = met_front number image kept records keeps.within read pre post f split in no_chance (next_place number (end_of number 0 pre)) f (meets number image kept (next_place number (end_of number 0 pre)) batches f m.1.0 keeps m.0 m.1.1)) in
    let groups = groups_front read.groups spells.groups flat.0 read.whole spells.whole flat.1 in
    let all_records : written ≡ records ++ map record_of groups.0 =
    spells.same ∙ ap (map record_of) groups.1 ∙ map-append record_of read.groups groups.0 ∙ ap (λ (l : List (List ℕ)). l ++ map record_of groups.0) (sym read.same) in
    sym (ap (take (length batches)) all_records ∙ ap (λ (n : ℕ). take n (records ++ map record_of groups.0)) (sym (length_map logged_bytes batches)) ∙ take-append_seam records (map record_of groups.0))

pub recovers_front : (number : Option ℕ) → (image whole : List ℕ) (written : List (List ℕ)) (r : Recovered) → SpellsWhole number whole written → IsRecovered number image r → NoChance number image whole
    → map logged_bytes r.batches ≡ take (length r.batches) written
recovers_front number image whole written r spells is no_chance = keeps_front number image whole r.kept r.batches written spells is.keeps no_chance
