-- What is left of the line when a group leaves it.
use Rattle.std.proofs.Common.{◌≡◌, ℕ, ◌+◌, ◌-◌, ◌<◌, ◌≤◌, List, [], ◌∷◌, ◌++◌, length, take, drop, map, get_or, refl, sym, ap, ◌∙◌, arith}
use Rattle.std.specs.List.{drop-map, take-map, AllByRecursion}
use Rattle.std.proofs.lemmas.List.{map-append, length-take-le, length-drop, drop-append-le, take-append-le, take-take, drop-take}
use Rattle.std.proofs.Math.Seq.{drop-append-add}
use Rattle.model_base.specs.declared.group.Item.{Item}
use Rattle.model_base.specs.Batch.{count_of}
use Rattle.model_core.specs.Core as core
use Rattle.replay_core.specs.declared.phases.LogPhase.{LogPhase}
use Rattle.replay_core.specs.declared.phases.LogPhase.TheVariants.{Free, Led, Built, Stalled, InLog, Marked, Handed}
use Rattle.replay_plans.specs.declared.plan.ClientPlan.{ClientPlan}
use Rattle.replay_core.specs.declared.writer.Writer.{Writer}
use Rattle.replay_core.specs.Leads.{first_len}
use Rattle.replay_plans.specs.Plans.{records_of}
use Rattle.replay_core.specs.Shown.{shown_writer, groups_of_lengths, total}
use Rattle.replay_core.specs.Mirrors.{AreWriters, IsClientOf, answers_in_hand}
use Rattle.replay_core.proofs.TableEvents.{known_take, known_drop}

-- a list without a part in its middle
abbrev pub without : {A : Type 0} → ℕ → ℕ → List A → List A
without start end xs = take start xs ++ drop end xs

pub map_without : {A B : Type 0} (f : A → B) (start end : ℕ) (xs : List A) → map f (without start end xs) ≡ without start end (map f xs)
map_without f start end xs = map-append f (take start xs) (drop end xs) ∙ ap (λ ys. ys ++ map f (drop end xs)) (sym (take-map f start xs)) ∙ ap (λ ys. take start (map f xs) ++ ys) (sym (drop-map f end xs))

known_append : (P : Writer → Type 0) (xs ys : List Writer) → AllByRecursion P xs → AllByRecursion P ys → AllByRecursion P (xs ++ ys)
known_append P [] ys h k = k
known_append P (x ∷ xs) ys h k = (h.0, known_append P xs ys h.1 k)

pub writers_without : (plans : List ClientPlan) (linked : List Writer) (items : List Item) (start end : ℕ) → AreWriters plans linked items → AreWriters plans (without start end linked) (without start end items)
writers_without plans linked items start end w = record {
  items_are = ap (without start end) w.items_are ∙ sym (map_without (λ v. core.item_of (shown_writer plans v)) start end linked);
  counts_are = map_without (λ (v : Writer). v.count) start end linked ∙ ap (without start end) w.counts_are ∙ sym (map_without (λ (v : Writer). count_of (records_of plans v.client v.batch)) start end linked);
  known = known_append (IsClientOf (length plans)) (take start linked) (drop end linked) (known_take (IsClientOf (length plans)) start linked w.known) (known_drop (IsClientOf (length plans)) end linked w.known);
}

pub drop_of_take : {A : Type 0} (n start : ℕ) (xs : List A) → n ≤ start → drop n (take start xs) ≡ take (start - n) (drop n xs)
drop_of_take n start xs h =
    let e : start ≡ n + (start - n) = omega arith in
    ap (λ k. drop n (take k xs)) e ∙ drop-take n (start - n) xs

-- the groups of the second queue come before what is taken out, and are as they were
pub cut_front : {A : Type 0} (ns : List ℕ) (start : ℕ) (xs back : List A) → total ns ≤ start → start ≤ length xs → groups_of_lengths ns (take start xs ++ back) ≡ groups_of_lengths ns xs
cut_front [] start xs back few h = refl
cut_front (n ∷ ns) start xs back few h =
    let len : length (take start xs) ≡ start = length-take-le start xs h in
    let one : take n (take start xs ++ back) ≡ take n xs = take-append-le n (take start xs) back (omega (arith, len)) ∙ take-take n start xs (omega arith) in
    let rest : drop n (take start xs ++ back) ≡ take (start - n) (drop n xs) ++ back = drop-append-le n (take start xs) back (omega (arith, len)) ∙ ap (λ ys. ys ++ back) (drop_of_take n start xs (omega arith)) in
    let later : groups_of_lengths ns (take (start - n) (drop n xs) ++ back) ≡ groups_of_lengths ns (drop n xs) = cut_front ns (start - n) (drop n xs) back (omega arith) (omega (arith, length-drop n xs)) in
    ap (λ ys. ys ∷ groups_of_lengths ns (drop n (take start xs ++ back))) one ∙ ap (λ zs. take n xs ∷ groups_of_lengths ns zs) rest ∙ ap (λ gs. take n xs ∷ gs) later

pub drop_without : {A : Type 0} (start end : ℕ) (xs : List A) → start ≤ length xs → drop (start + 0) (without start end xs) ≡ drop end xs
drop_without start end xs h =
    let len : length (take start xs) ≡ start = length-take-le start xs h in
    ap (λ n. drop (n + 0) (without start end xs)) (sym len) ∙ drop-append-add (take start xs) (drop end xs) 0

pub answered_few : (log : LogPhase) (n : ℕ) → answers_in_hand log n ≤ n
answered_few Free n = omega arith
answered_few (Led d) n = omega arith
answered_few Built n = omega arith
answered_few Stalled n = omega arith
answered_few InLog n = omega arith
answered_few Marked n = omega arith
answered_few (Handed d) n = omega arith

-- the part of the line that is the group in hand
pub part_shown : (plans : List ClientPlan) (start len end : ℕ) (ws : List Writer) → end ≡ start + len → map (shown_writer plans) (take (end - start) (drop start ws)) ≡ take len (drop start (map (shown_writer plans) ws))
part_shown plans start len end ws e =
    let k : end - start ≡ len = omega arith in
    ap (λ n. map (shown_writer plans) (take n (drop start ws))) k ∙ sym (take-map (shown_writer plans) len (drop start ws)) ∙ ap (take len) (sym (drop-map (shown_writer plans) start ws))

-- the first group and the others
pub first_of : (ns : List ℕ) → 0 < length ns → ns ≡ get_or ns 0 0 ∷ drop 1 ns
first_of [] h = absurd (omega arith)
first_of (n ∷ ns) h = refl

pub first_len_some : (ns : List ℕ) → 0 < first_len ns → 0 < length ns
first_len_some [] h = absurd (omega arith)
first_len_some (n ∷ ns) h = omega arith
