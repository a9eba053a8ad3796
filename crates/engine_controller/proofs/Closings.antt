-- The one history, from the observers of all passes.
use Rattle.std.proofs.Common.{◌≡◌, ◌≢◌, ℕ, zero, suc, ◌+◌, ◌≤◌, Bool, true, false, List, [], ◌∷◌, ◌++◌, length, Some, sym, ap, ◌∙◌, refl, subst, arith, append_assoc, true≢false}
use Rattle.std.proofs.lemmas.List.{append-nil}
use Rattle.std.specs.Prelude.{◌==◌, ◌||◌, nat_lt, slice_get}
use Rattle.std.specs.List.{AllByRecursion}
use Rattle.std.proofs.lemmas.Bool.Decides.{nat_tests}
use Rattle.crossbeam_utils.specs.Seq.{cell_view}
use Rattle.model_base.specs.Controller as controller
use Rattle.model_base.specs.Controller.{ControllerCall, numbers_after}
use Rattle.model_base.specs.Tokens.{AreHeard}
use Rattle.engine_controller.specs.declared.pass.Pass.{Pass}
use Rattle.engine_controller.specs.declared.rule.Call.{Call}
use Rattle.engine_controller.specs.declared.rule.Observer.{Observer}
use Rattle.engine_controller.specs.declared.rule.Caller.TheVariants.{Client, Others}
use Rattle.engine_controller.specs.Numbers.{action_of}
use Rattle.engine_controller.specs.Rule.{history_from, history_of, observer, others, seen_in, IsClientView, covers, IsOfOthers, Fits}
use Rattle.engine_controller.specs.Passes.{client_of, seen_by, GoesOn, IsHistoryOf}
use Rattle.engine_controller.proofs.Totals.{all_back, all_map, get_behind, none_of_length}
use Rattle.engine_controller.proofs.Histories.{legal_from}
use Rattle.engine_controller.proofs.Asked.{not_that_client}
use Rattle.engine_controller.proofs.Tellings.{goes_on}

-- the observers of these passes
abbrev pub observers_of : List Pass → List Observer
observers_of [] = []
observers_of (p ∷ passes) = cell_view p.seat ++ observers_of passes

pub observers_more : (xs : List Pass) (p : Pass) → observers_of (xs ++ p ∷ []) ≡ observers_of xs ++ cell_view p.seat
observers_more [] p = append-nil (cell_view p.seat)
observers_more (x ∷ xs) p = ap (λ l. cell_view x.seat ++ l) (observers_more xs p) ∙ sym (append_assoc (cell_view x.seat) (observers_of xs) (cell_view p.seat))

pub fits_of : (calls : List Call) (passes : List Pass) (i : ℕ) (p : Pass) → slice_get passes i ≡ Some p → AllByRecursion (Fits calls) (observers_of passes) → AllByRecursion (Fits calls) (cell_view p.seat)
fits_of calls [] i p e a = absurd (cc)
fits_of calls (x ∷ passes) zero p e a =
    let is : x ≡ p = cc (e) in
    subst (λ (q : Pass). AllByRecursion (Fits calls) (cell_view q.seat)) is (front (cell_view x.seat) (observers_of passes) a)
  where
    front : (xs ys : List Observer) → AllByRecursion (Fits calls) (xs ++ ys) → AllByRecursion (Fits calls) xs
    front [] ys b = tt
    front (v ∷ xs) ys b = (b.0, front xs ys b.1)
fits_of calls (x ∷ passes) (suc i) p e a = fits_of calls passes i p e (all_back (Fits calls) (cell_view x.seat) (observers_of passes) a)

-- a client's number that the others don't cover is from 1 to n
pub client_within : (c n : ℕ) → covers (Others n) c ≡ false → (1 ≤ c) × (c ≤ n)
client_within c n h = within (c == 0) (nat_lt n c) refl refl h
  where
    within : (z l : Bool) → (c == 0) ≡ z → nat_lt n c ≡ l → (z || l) ≡ false → (1 ≤ c) × (c ≤ n)
    within true l p q e = absurd (true≢false e)
    within false true p q e = absurd (true≢false e)
    within false false p q e = (grind (arith, nat_tests), grind (arith, nat_tests))

within_all : (n : ℕ) (m : controller.Numbers) (calls : List Call) → AllByRecursion (IsOfOthers (Others n)) calls → AllByRecursion (λ (t : ControllerCall). (1 ≤ t.client) × (t.client ≤ n)) (history_from m calls)
within_all n m [] a = tt
within_all n m (c ∷ calls) a = (client_within c.client n a.0, within_all n (numbers_after m (action_of c.action)) calls a.1)

module _ (passes : List Pass) (each : (i : ℕ) (p : Pass) → slice_get passes i ≡ Some p → IsClientView (cell_view p.seat) × (client_of p ≡ i + 1)) (calls : List Call) (fits : AllByRecursion (Fits calls) (others (length passes) ++ observers_of passes)) (heard : AreHeard (history_of calls)) where
  pub is_history : IsHistoryOf passes (history_of calls)
  is_history = record {
    legal = legal_from controller.opening calls;
    heard = heard;
    clients =
        let rest = fits.0 in
        within_all (length passes) controller.opening calls (subst (AllByRecursion (IsOfOthers (Others (length passes)))) rest.begins rest.behind);
    each = λ i p e.
        let own = each i p e in
        let mine : Fits calls (observer (Client (client_of p)) (seen_in (cell_view p.seat))) = (subst (AllByRecursion (Fits calls)) own.0 (fits_of calls passes i p e fits.1)).0 in
        let goes : GoesOn (client_of p) (seen_by p) (history_of (seen_in (cell_view p.seat) ++ mine.rest)) =
        goes_on (client_of p) (seen_in (cell_view p.seat)) mine.rest (all_map (IsOfOthers (Client (client_of p))) (λ (k : Call). k.client ≢ client_of p) (λ k h. not_that_client k.client (client_of p) h) mine.rest mine.behind) in
        subst (λ (x : ℕ × List ControllerCall). GoesOn x.0 (seen_by p) x.1) (λ j. (own.1 j, history_of (mine.begins j))) goes;
  }

-- One pass after another

-- the pass that is taken next is the one at its place in the whole list
pub at_next : {A : Type 0} (front rest all next : List A) (x : A) → front ++ rest ≡ all → rest ≡ x ∷ next → slice_get all (length front) ≡ Some x
at_next front rest all next x whole is = subst (λ l. slice_get l (length front) ≡ Some x) (ap (λ l. front ++ l) (sym is) ∙ whole) (get_behind front next x)

-- the taken ones, with the next one added, and those that are left after it are all
pub taken_next : {A : Type 0} (front rest all next : List A) (x : A) → front ++ rest ≡ all → rest ≡ x ∷ next → (front ++ x ∷ []) ++ next ≡ all
taken_next front rest all next x whole is = append_assoc front (x ∷ []) next ∙ ap (λ l. front ++ l) (sym is) ∙ whole

-- where none is left, the taken ones are all
pub taken_all : {A : Type 0} (front rest all : List A) → front ++ rest ≡ all → length rest ≡ 0 → front ≡ all
taken_all front rest all whole none = sym (append-nil front) ∙ ap (λ l. front ++ l) (sym (none_of_length rest none)) ∙ whole

-- its observers are added after those of the passes before it
pub joins_next : (n : ℕ) (taken : List Pass) (p : Pass) (before own after : List Observer) → after ≡ before ++ own → before ≡ others n ++ observers_of taken → own ≡ cell_view p.seat
    → after ≡ others n ++ observers_of (taken ++ p ∷ [])
joins_next n taken p before own after both is cut =
    both ∙ (λ j. is j ++ cut j) ∙ ap (λ (l : List Observer). observer (Others n) [] ∷ l) (sym (observers_more taken p))

pub joined_all : (n : ℕ) (taken all : List Pass) (v : List Observer) → v ≡ others n ++ observers_of taken → taken ≡ all → length all ≡ n → v ≡ others (length all) ++ observers_of all
joined_all n taken all v is same number = is ∙ (λ j. others (sym number j) ++ observers_of (same j))
