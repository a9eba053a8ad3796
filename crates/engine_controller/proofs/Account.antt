-- What follows from the clauses of the controller's calls, for a client that keeps an account of its own calls.
use Rattle.std.proofs.Common.{◌≡◌, ℕ, Bool, true, false, List, [], ◌∷◌, ◌++◌, length, length-append, map, Option, Some, sym, ap, ◌∙◌, refl, subst, arith, append_assoc}
use Rattle.std.specs.Prelude.{slice_get, if◌then◌else◌, Result, Ok, Err, OnOk, OnErr, None}
use Rattle.std.proofs.lemmas.List.{append-nil}
use Rattle.std.proofs.lemmas.List.Sums.{fold-append}
use mathlib.Core.List.{IsPrefix}
use Rattle.model_base.specs.Controller.{ControllerCall, Action, Look, unstop, unslow}
use Rattle.model_base.specs.Tokens.{tokens_of, is_token, holds_stop, holds_slow, slow_after, given_back}
use Rattle.engine_controller.specs.Passes.{AreOfOthers, GoesOn, EndsWith, GivesBack, IsLast, token_in}
use Rattle.engine_controller.proofs.Totals.{get_behind}
use Rattle.engine_controller.proofs.Asked.{same_client, other_client, tokens_append}

tokens_of_others : (c : ℕ) (calls : List ControllerCall) → AreOfOthers c calls → tokens_of c calls ≡ []
tokens_of_others c [] a = refl
tokens_of_others c (t ∷ calls) a = rw (other_client t.client c a.0) (tokens_of_others c calls a.1)

tokens_of_one : (c : ℕ) (a : Action) (told : Option Look) → tokens_of c (record { client = c; action = a; told = told } ∷ []) ≡ token_in a
tokens_of_one c a told = rw (same_client c) (by_kind (is_token a))
  where
    by_kind : (b : Bool) → map (λ (t : ControllerCall). t.action) (if b then record { client = c; action = a; told = told } ∷ [] else []) ≡ (if b then a ∷ [] else [])
    by_kind true = refl
    by_kind false = refl

-- Calls of others

pub goes_begins : (c : ℕ) (seen after : List ControllerCall) → GoesOn c seen after → IsPrefix seen after
goes_begins c seen after g = (g.between, sym g.is)

pub goes_tokens : (c : ℕ) (seen after : List ControllerCall) → GoesOn c seen after → tokens_of c after ≡ tokens_of c seen
goes_tokens c seen after g =
    ap (tokens_of c) g.is ∙ tokens_append c seen g.between
    ∙ ap (λ l. tokens_of c seen ++ l) (tokens_of_others c g.between g.others) ∙ append-nil (tokens_of c seen)

-- A call of its own

pub ends_begins : (c : ℕ) (seen : List ControllerCall) (a : Action) (told : Option Look) (after : List ControllerCall) → EndsWith c seen a told after → IsPrefix seen after
ends_begins c seen a told after e =
    let own : List ControllerCall = record { client = c; action = a; told = told } ∷ [] in
    (e.between ++ own, sym (append_assoc seen e.between own) ∙ sym e.is)

pub ends_tokens : (c : ℕ) (seen : List ControllerCall) (a : Action) (told : Option Look) (after : List ControllerCall) → EndsWith c seen a told after
    → tokens_of c after ≡ tokens_of c seen ++ token_in a
ends_tokens c seen a told after e =
    let before : tokens_of c (seen ++ e.between) ≡ tokens_of c seen =
    tokens_append c seen e.between ∙ ap (λ l. tokens_of c seen ++ l) (tokens_of_others c e.between e.others) ∙ append-nil (tokens_of c seen) in
    ap (tokens_of c) e.is ∙ tokens_append c (seen ++ e.between) (record { client = c; action = a; told = told } ∷ [])
    ∙ (λ i. before i ++ tokens_of_one c a told i)

pub ends_last : (c : ℕ) (seen : List ControllerCall) (a : Action) (told : Option Look) (after : List ControllerCall) → EndsWith c seen a told after
    → IsLast c seen a told after
ends_last c seen a told after e =
    let own : ControllerCall = record { client = c; action = a; told = told } in
    record {
      place = length (seen ++ e.between);
      last = ap length e.is ∙ length-append (seen ++ e.between) (own ∷ []);
      is_later = record {
        later = omega (arith, length-append seen e.between);
        there = subst (λ l. slice_get l (length (seen ++ e.between)) ≡ Some own) (sym e.is) (get_behind (seen ++ e.between) [] own);
      };
    }

-- A client gives back what it holds

pub gave : {T E : Type 0} (r : Result T E) (holds : Bool) (c : ℕ) (before : List ControllerCall) (a : Action) (after : List ControllerCall)
    → OnOk r ((holds ≡ true) × EndsWith c before a None after) → OnErr r ((holds ≡ false) × (after ≡ before))
    → GivesBack holds c before a after
gave (Ok x) holds c before a after ok err = rw ok.0 ok.1
gave (Err x) holds c before a after ok err = rw err.0 err.1

gave_tokens : (holds : Bool) (c : ℕ) (before : List ControllerCall) (a : Action) (after : List ControllerCall) → GivesBack holds c before a after
    → tokens_of c after ≡ tokens_of c before ++ (if holds then token_in a else [])
gave_tokens true c before a after g = ends_tokens c before a None after g
gave_tokens false c before a after g = ap (tokens_of c) g ∙ sym (append-nil (tokens_of c before))

slow_same : (asked : List Action) (shown : ℕ) (holds : Bool) → holds_slow (asked ++ (if holds then token_in (unstop shown) else [])) ≡ holds_slow asked
slow_same asked shown true = fold-append slow_after false asked (unstop shown ∷ [])
slow_same asked shown false = ap holds_slow (append-nil asked)

-- giving the stop token back doesn't change whether the slow token is held
pub slow_stays : (c shown : ℕ) (seen middle : List ControllerCall) → GivesBack (holds_stop (tokens_of c seen)) c seen (unstop shown) middle
    → holds_slow (tokens_of c middle) ≡ holds_slow (tokens_of c seen)
slow_stays c shown seen middle g =
    ap holds_slow (gave_tokens (holds_stop (tokens_of c seen)) c seen (unstop shown) middle g) ∙ slow_same (tokens_of c seen) shown (holds_stop (tokens_of c seen))

pub gave_both : (c shown : ℕ) (seen middle after : List ControllerCall) → GivesBack (holds_stop (tokens_of c seen)) c seen (unstop shown) middle
    → GivesBack (holds_slow (tokens_of c seen)) c middle (unslow shown) after
    → tokens_of c after ≡ tokens_of c seen ++ given_back (tokens_of c seen) shown
gave_both c shown seen middle after g h =
    let asked : List Action = tokens_of c seen in
    let first : List Action = if holds_stop asked then token_in (unstop shown) else [] in
    let second : List Action = if holds_slow asked then token_in (unslow shown) else [] in
    gave_tokens (holds_slow asked) c middle (unslow shown) after h ∙ ap (λ l. l ++ second) (gave_tokens (holds_stop asked) c seen (unstop shown) middle g)
    ∙ append_assoc asked first second

module _ {T E U F : Type 0} (r : Result T E) (q : Result U F) (c d shown : ℕ) (seen middle after : List ControllerCall) (same : d ≡ c)
    (stop_ok : OnOk r ((holds_stop (tokens_of c seen) ≡ true) × EndsWith c seen (unstop shown) None middle))
    (stop_err : OnErr r ((holds_stop (tokens_of c seen) ≡ false) × (middle ≡ seen)))
    (slow_ok : OnOk q ((holds_slow (tokens_of d middle) ≡ true) × EndsWith d middle (unslow shown) None after))
    (slow_err : OnErr q ((holds_slow (tokens_of d middle) ≡ false) × (after ≡ middle))) where
  pub gives_stop : GivesBack (holds_stop (tokens_of c seen)) c seen (unstop shown) middle
  gives_stop = gave r (holds_stop (tokens_of c seen)) c seen (unstop shown) middle stop_ok stop_err

  pub gives_slow : GivesBack (holds_slow (tokens_of c seen)) c middle (unslow shown) after
  gives_slow =
      let held : holds_slow (tokens_of d middle) ≡ holds_slow (tokens_of c seen) = ap (λ n. holds_slow (tokens_of n middle)) same ∙ slow_stays c shown seen middle gives_stop in
      subst (λ (x : Bool × ℕ). GivesBack x.0 x.1 middle (unslow shown) after) (λ i. (held i, same i)) (gave q (holds_slow (tokens_of d middle)) d middle (unslow shown) after slow_ok slow_err)
