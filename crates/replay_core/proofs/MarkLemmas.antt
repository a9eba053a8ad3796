-- Marks of clients, by their numbers.
use Rattle.std.proofs.Common.{◌≡◌, ◌≢◌, ℕ, zero, suc, ◌+◌, ◌<◌, ◌≤◌, Bool, true, false, ◌==◌, ◌||◌, ◌⊎◌, inl, inr, List, [], ◌∷◌, ◌++◌, length, get_or, slice_get, slice_set, Option, Some, None, refl, sym, ap, ◌∙◌, arith}
use Rattle.std.specs.Prelude.{if◌then◌else◌}
use Rattle.std.proofs.lemmas.List.{get_or-set_same, get_or-set_other, get_or_past}
use Rattle.std.proofs.lemmas.List.Folds.{list_any-append}
use Rattle.std.proofs.lemmas.Option.{slice_get_cases}
use Rattle.model_core.specs.Core as core
use Rattle.model_core.specs.Step as event
use Rattle.std.proofs.lemmas.Bool.Decides.{nat_tests}
use Rattle.replay_core.specs.declared.phases.Mark.{Mark}
use Rattle.replay_core.specs.declared.phases.Mark.TheVariants.{Out, Inserted, Finished}
use Rattle.replay_core.specs.Mirrors.{mark_of, IsLaunched}
use Rattle.replay_core.specs.Phases.{is_inserted, is_finished}

pub mark_set : (marks : List Mark) (place client c : ℕ) (x : Mark) → place < length marks → client ≡ place + 1 → mark_of (slice_set marks place x) c ≡ (if c == client then x else mark_of marks c)
mark_set marks place client zero x h e =
    let no : (0 == client) ≡ false = grind (arith, nat_tests) in
    sym (ap (λ b. if b then x else Out) no)
mark_set marks place client (suc c) x h e = by_test (suc c == client) refl
  where
    by_test : (b : Bool) → (suc c == client) ≡ b → get_or (slice_set marks place x) c Out ≡ (if b then x else get_or marks c Out)
    by_test true t =
        let same : c ≡ place = grind (arith, nat_tests) in
        ap (λ k. get_or (slice_set marks place x) k Out) same ∙ get_or-set_same marks place x Out h
    by_test false t =
        let other : c ≢ place = λ same. let yes : suc c ≡ client = omega arith in grind (arith, nat_tests) in
        get_or-set_other marks place c x Out other

pub same_either_way : (a b : ℕ) → (a == b) ≡ (b == a)
same_either_way a b = by_test (a == b) refl
  where
    by_test : (v : Bool) → (a == b) ≡ v → (a == b) ≡ (b == a)
    by_test true t = let e : a ≡ b = grind (arith, nat_tests) in let back : (b == a) ≡ true = grind (arith, nat_tests) in t ∙ sym back
    by_test false t = let e : b ≢ a = λ same. let yes : a ≡ b = sym same in grind (arith, nat_tests) in let back : (b == a) ≡ false = grind (arith, nat_tests) in t ∙ sym back

pub not_inserted : (x : Mark) → is_inserted x ≡ false → is_finished x ≡ false
not_inserted Out e = refl
not_inserted Inserted e = cc
not_inserted Finished e = cc

pub among_push : (c d : ℕ) (ins : List ℕ) → core.among c (ins ++ d ∷ []) ≡ (if c == d then true else core.among c ins)
among_push c d ins = list_any-append (λ n. n == c) ins (d ∷ []) ∙ ap (λ b. core.among c ins || (b || false)) (same_either_way d c) ∙ either (core.among c ins) (c == d)
  where
    either : (a b : Bool) → (a || (b || false)) ≡ (if b then true else a)
    either true true = refl
    either true false = refl
    either false true = refl
    either false false = refl

pub last_push : (c d : ℕ) (fin : List ℕ) → event.is_last c (fin ++ d ∷ []) ≡ (d == c)
last_push c d [] = refl
last_push c d (x ∷ []) = refl
last_push c d (x ∷ y ∷ fin) = last_push c d (y ∷ fin)

-- a client inserts
pub launched_insert : (marks new : List Mark) (last : Option ℕ) (ins fin : List ℕ) (d : ℕ) → IsLaunched marks last ins fin → is_inserted (mark_of marks d) ≡ false
    → ((c : ℕ) → mark_of new c ≡ (if c == d then Inserted else mark_of marks c)) → IsLaunched new last (ins ++ d ∷ []) fin
launched_insert marks new last ins fin d l out set = record {
  inserted = λ c. among_push c d ins ∙ ap (λ b. if c == d then true else b) (l.inserted c) ∙ sym (by_choice is_inserted (c == d) Inserted (mark_of marks c)) ∙ ap is_inserted (sym (set c));
  finished = λ c. l.finished c ∙ same_finish c (c == d) refl ∙ ap is_finished (sym (set c));
  last = l.last;
}
  where
    by_choice : (f : Mark → Bool) (b : Bool) (x y : Mark) → f (if b then x else y) ≡ (if b then f x else f y)
    by_choice f true x y = refl
    by_choice f false x y = refl

    same_finish : (c : ℕ) (b : Bool) → (c == d) ≡ b → is_finished (mark_of marks c) ≡ is_finished (if b then Inserted else mark_of marks c)
    same_finish c true t = let e : c ≡ d = grind (arith, nat_tests) in ap (λ n. is_finished (mark_of marks n)) e ∙ not_inserted (mark_of marks d) out
    same_finish c false t = refl

-- a client that has inserted finishes
pub launched_finish : (marks new : List Mark) (last : Option ℕ) (ins fin : List ℕ) (d : ℕ) → IsLaunched marks last ins fin → is_inserted (mark_of marks d) ≡ true
    → ((c : ℕ) → mark_of new c ≡ (if c == d then Finished else mark_of marks c)) → IsLaunched new (Some d) ins (fin ++ d ∷ [])
launched_finish marks new last ins fin d l here set = record {
  inserted = λ c. l.inserted c ∙ same_insert c (c == d) refl ∙ ap is_inserted (sym (set c));
  finished = λ c. among_push c d fin ∙ ap (λ b. if c == d then true else b) (l.finished c) ∙ sym (by_choice is_finished (c == d) Finished (mark_of marks c)) ∙ ap is_finished (sym (set c));
  last = λ c. last_push c d fin;
}
  where
    by_choice : (f : Mark → Bool) (b : Bool) (x y : Mark) → f (if b then x else y) ≡ (if b then f x else f y)
    by_choice f true x y = refl
    by_choice f false x y = refl

    same_insert : (c : ℕ) (b : Bool) → (c == d) ≡ b → is_inserted (mark_of marks c) ≡ is_inserted (if b then Finished else mark_of marks c)
    same_insert c true t = let e : c ≡ d = grind (arith, nat_tests) in ap (λ n. is_inserted (mark_of marks n)) e ∙ here
    same_insert c false t = refl

-- a number that is marked as inserted is that of a client
pub inserted_is_client : (marks : List Mark) (c : ℕ) → is_inserted (mark_of marks c) ≡ true → (1 ≤ c) × (c ≤ length marks)
inserted_is_client marks zero e = cc
inserted_is_client marks (suc c) e = by_place (slice_get_cases marks c).1
  where
    by_place : ((x : Mark) × (c < length marks) × (slice_get marks c ≡ Some x) × (get_or marks c x ≡ x)) ⊎ ((length marks ≤ c) × (slice_get marks c ≡ None)) → (1 ≤ suc c) × (suc c ≤ length marks)
    by_place (inl (x, lt, there, is)) = (omega arith, omega arith)
    by_place (inr (ge, none)) =
        let past : get_or marks c Out ≡ Out = get_or_past marks c Out ge in
        let no : is_inserted (get_or marks c Out) ≡ false = ap is_inserted past in
        cc
