-- The places of a client's delays.
use Rattle.std.proofs.Common.{◌≡◌, ℕ, zero, suc, ◌+◌, ◌-◌, ◌≤◌, ◌<◌, Bool, true, false, true≢false, List, [], ◌∷◌, ◌++◌, length, length-append, Option, Some, sym, ap, ◌∙◌, refl, subst, arith, append_assoc}
use Rattle.std.specs.Prelude.{◌==◌, ◌&&◌, slice_get}
use Rattle.std.specs.Bool.{IsTrue}
use Rattle.std.specs.List.{AllByRecursion}
use Rattle.std.proofs.lemmas.List.{append-nil}
use Rattle.model_base.specs.Controller.{ControllerCall, Action, Look}
use Rattle.model_base.specs.Groups.{Group, HasPlace, AreAsked, is_delay}
use Rattle.engine_controller.specs.declared.pass.Pass.{Pass}
use Rattle.engine_controller.specs.Delays.{place_if, delays_from, delays_of}
use Rattle.engine_controller.specs.Passes.{seen_by, AreOfOthers, GoesOn, EndsWith, IsHistoryOf}
use Rattle.engine_controller.proofs.Asked.{same_client, other_client}
use Rattle.engine_controller.proofs.Totals.{all_back}

delays_append : (c p : ℕ) (xs ys : List ControllerCall) → delays_from c p (xs ++ ys) ≡ delays_from c p xs ++ delays_from c (p + length xs) ys
delays_append c p [] ys = ap (λ n. delays_from c n ys) (omega arith)
delays_append c p (t ∷ xs) ys =
    let first : List ℕ = place_if ((t.client == c) && is_delay t.action) p in
    let next : p + 1 + length xs ≡ p + length (t ∷ xs) = omega arith in
    ap (λ l. first ++ l) (delays_append c (p + 1) xs ys) ∙ sym (append_assoc first (delays_from c (p + 1) xs) (delays_from c (p + 1 + length xs) ys))
    ∙ ap (λ n. (first ++ delays_from c (p + 1) xs) ++ delays_from c n ys) next

none_of_others : (c p : ℕ) (calls : List ControllerCall) → AreOfOthers c calls → delays_from c p calls ≡ []
none_of_others c p [] a = refl
none_of_others c p (t ∷ calls) a = rw (other_client t.client c a.0) (none_of_others c (p + 1) calls a.1)

-- calls of others add no delays of the client
behind_others : (c : ℕ) (seen between : List ControllerCall) → AreOfOthers c between → delays_of c (seen ++ between) ≡ delays_of c seen
behind_others c seen between a =
    delays_append c 0 seen between ∙ ap (λ l. delays_of c seen ++ l) (none_of_others c (0 + length seen) between a) ∙ append-nil (delays_of c seen)

pub goes_delays : (c : ℕ) (seen after : List ControllerCall) → GoesOn c seen after → delays_of c after ≡ delays_of c seen
goes_delays c seen after g = ap (delays_of c) g.is ∙ behind_others c seen g.between g.others

delays_of_one : (c : ℕ) (a : Action) (told : Option Look) (p n : ℕ) → p ≡ n → delays_from c p (record { client = c; action = a; told = told } ∷ []) ≡ place_if (is_delay a) n
delays_of_one c a told p n e = rw (same_client c) (append-nil (place_if (is_delay a) p) ∙ ap (place_if (is_delay a)) e)

-- a delay of its own is one more, at the last place of the history
pub ends_delays : (c : ℕ) (seen : List ControllerCall) (a : Action) (told : Option Look) (after : List ControllerCall) → EndsWith c seen a told after
    → delays_of c after ≡ delays_of c seen ++ place_if (is_delay a) (length after - 1)
ends_delays c seen a told after e =
    let own : ControllerCall = record { client = c; action = a; told = told } in
    let long : length after ≡ length (seen ++ e.between) + 1 = ap length e.is ∙ length-append (seen ++ e.between) (own ∷ []) in
    let place : 0 + length (seen ++ e.between) ≡ length after - 1 = omega (arith, long) in
    ap (delays_of c) e.is ∙ delays_append c 0 (seen ++ e.between) (own ∷ [])
    ∙ (λ i. behind_others c seen e.between e.others i ++ delays_of_one c a told (0 + length (seen ++ e.between)) (length after - 1) place i)

-- All delays of the one history

head_asked : (groups : List Group) (c p : ℕ) (b : Bool) (rest : List ℕ) → IsTrue b → AllByRecursion (HasPlace groups) (place_if ((c == c) && b) p ++ rest) → HasPlace groups p
head_asked groups c p true rest d a = (subst (λ x. AllByRecursion (HasPlace groups) (place_if (x && true) p ++ rest)) (same_client c) a).0
head_asked groups c p false rest d a = absurd (true≢false (sym d))

asked_from : (groups : List Group) (n p : ℕ) (calls : List ControllerCall) → AllByRecursion (λ (t : ControllerCall). (1 ≤ t.client) × (t.client ≤ n)) calls
    → ((c : ℕ) → 1 ≤ c → c ≤ n → AllByRecursion (HasPlace groups) (delays_from c p calls)) → AreAsked groups p calls
asked_from groups n p [] within each = tt
asked_from groups n p (t ∷ calls) within each = (
  λ d. head_asked groups t.client p (is_delay t.action) (delays_from t.client (p + 1) calls) d (each t.client within.0.0 within.0.1),
  asked_from groups n (p + 1) calls within.1
      (λ c low high. all_back (HasPlace groups) (place_if ((t.client == c) && is_delay t.action) p) (delays_from c (p + 1) calls) (each c low high)),
)

pub there_is : {A : Type 0} (xs : List A) (i : ℕ) → i < length xs → (x : A) × (slice_get xs i ≡ Some x)
there_is [] i h = absurd (omega (arith, h))
there_is (x ∷ xs) zero h = (x, refl)
there_is (x ∷ xs) (suc i) h = there_is xs i (omega (arith, h))

pub all_asked : (groups : List Group) (passes : List Pass) (history : List ControllerCall) → IsHistoryOf passes history
    → ((i : ℕ) (pass : Pass) → slice_get passes i ≡ Some pass → AllByRecursion (HasPlace groups) (delays_of (i + 1) (seen_by pass)))
    → AreAsked groups 0 history
all_asked groups passes history h each =
    asked_from groups (length passes) 0 history h.clients (λ c low high. at c low high)
  where
    of_pass : (i : ℕ) (pass : Pass) → slice_get passes i ≡ Some pass → AllByRecursion (HasPlace groups) (delays_of (i + 1) history)
    of_pass i pass e = subst (AllByRecursion (HasPlace groups)) (sym (goes_delays (i + 1) (seen_by pass) history (h.each i pass e))) (each i pass e)

    at : (c : ℕ) → 1 ≤ c → c ≤ length passes → AllByRecursion (HasPlace groups) (delays_of c history)
    at zero low high = absurd (omega (arith, low))
    at (suc i) low high = let p = there_is passes i (omega (arith, high)) in subst (λ n. AllByRecursion (HasPlace groups) (delays_of n history)) (omega arith) (of_pass i p.0 p.1)
