-- A commit that was refused because of a stop, where the only stop comes after it.
use Rattle.std.proofs.Common.{◌≡◌, ℕ, zero, suc, ◌<◌, ◌≤◌, Bool, true, false, IsTrue, cond, ◌==◌, nat_lt, ◌||◌, ◌&&◌, Option, None, Some, List, [], ◌∷◌, ◌++◌, map, slice_get, refl, sym, arith, ap, ◌∙◌, subst, inl, inr}
use Rattle.std.specs.List.{AllByRecursion}
use Rattle.std.proofs.lemmas.Bool.{cond-true, cases_Bool}
use Rattle.std.proofs.lemmas.Bool.Decides.{nat_tests}
use Rattle.model_base.specs.Varint.{varint_within}
use Rattle.model_base.specs.declared.write.Refusal.TheVariants as no
use Rattle.model_base.specs.Calls.{refused}
use Rattle.model_base.specs.Controller as controller
use Rattle.model_base.specs.Controller.{ControllerCall, Action, Numbers, After, Look, opening, after_delay, numbers_after, answer, IsHistoryFrom}
use Rattle.model_base.specs.Tokens.{is_token, tokens_of, given_back, holds_stop}
use Rattle.model_base.specs.Attempts.{Fate}
use Rattle.model_base.specs.Trace.{Trace}
use Rattle.model_base.specs.Progress.{Progress, fresh, early_refusal}
use Rattle.model_base.specs.Replies.{IsTold}
use Rattle.model_base.specs.Runs.{Run}
use Rattle.model_base.specs.Outcomes.{IsClient, IsLegal}
use Rattle.model_rows.specs.Examples.{put_a1, noslow}
use Rattle.model_rows.specs.Runs.{one_client, later_stop_script, later_stop_calls, refused_by_a_later_stop}
use Rattle.model_rows.proofs.Alone.{some_same}
use Rattle.model_rows.proofs.Steps.{run_of, is_attempted}

-- Where nothing stops or slows writes, no call reports a stop, and only a token call can change that

abbrev IsCalm : Numbers → Type 0
IsCalm n = (n.stops ≡ 0) × (n.delays ≡ 0)

tells_none : (n : Numbers) (a : Action) → IsCalm n → (l : Look) → answer n a ≡ Some l → l.stops ≡ 0
tells_none n (controller.delay now bytes) calm l is = subst (λ (m : Look). m.stops ≡ 0) (some_same is) calm.0
tells_none n controller.look calm l is = subst (λ (m : Look). m.stops ≡ 0) (some_same is) calm.0
tells_none n other calm l is = absurd (cc)

delay_calm : (n : Numbers) (now bytes : ℕ) → IsCalm n → (after_delay n now bytes).numbers ≡ n
delay_calm n now bytes calm =
    let none : (nat_lt 0 n.stops || (n.delays == 0)) ≡ true = rw (calm.0, calm.1) refl in
    ap (λ (a : After). a.numbers) (cond-true (nat_lt 0 n.stops || (n.delays == 0)) (record { numbers = n; wait = 0 }) _ none)

calm_after : (n : Numbers) (a : Action) → is_token a ≡ false → IsCalm n → IsCalm (numbers_after n a)
calm_after n (controller.delay now bytes) plain calm = subst IsCalm (sym (delay_calm n now bytes calm)) calm
calm_after n controller.look plain calm = calm
calm_after n (controller.say shown) plain calm = calm
calm_after n (controller.hear most) plain calm = calm
calm_after n other plain calm = absurd (cc)

-- A client that stopped writes once and gave the stop back

abbrev actions_of : List ControllerCall → List Action
actions_of controller_calls = map (λ (t : ControllerCall). t.action) controller_calls

abbrev a_stop : ℕ → ControllerCall
a_stop shown = record { client = 1; action = controller.stop shown; told = None }

abbrev HaveNoStop : List Action → Type 0
HaveNoStop actions = AllByRecursion (λ (a : Action). (shown : ℕ) → a ≡ controller.stop shown → ⊥) actions

none_behind : (b : Bool) (t : ControllerCall) (rest : List ControllerCall) → HaveNoStop (actions_of (cond b (t ∷ rest) rest)) → HaveNoStop (actions_of rest)
none_behind true t rest none = none.1
none_behind false t rest none = none

no_stop_at : (controller_calls : List ControllerCall) → HaveNoStop (tokens_of 1 controller_calls) → (place shown : ℕ) → slice_get controller_calls place ≡ Some (a_stop shown) → ⊥
no_stop_at [] none place shown there = absurd (cc)
no_stop_at (t ∷ rest) none zero shown there = (subst (λ (u : ControllerCall). HaveNoStop (tokens_of 1 (u ∷ rest))) (some_same there) none).0 shown refl
no_stop_at (t ∷ rest) none (suc place) shown there = no_stop_at rest (none_behind ((t.client == 1) && is_token t.action) t _ none) place shown there

once : ℕ → ℕ → List Action
once shown later = controller.stop shown ∷ controller.unstop later ∷ []

behind_a_token : (shown later : ℕ) (b : Bool) (t : ControllerCall) (rest : List ControllerCall) → b ≡ true → actions_of (cond b (t ∷ rest) rest) ≡ once shown later → actions_of rest ≡ controller.unstop later ∷ []
unfolding once
behind_a_token shown later true t rest token is = cc
behind_a_token shown later false t rest token is = absurd (cc)

behind_another : (shown later : ℕ) (b : Bool) (t : ControllerCall) (rest : List ControllerCall) → b ≡ false → actions_of (cond b (t ∷ rest) rest) ≡ once shown later → actions_of rest ≡ once shown later
behind_another shown later true t rest token is = absurd (cc)
behind_another shown later false t rest token is = is

-- each token call is the client's
is_own : (t : ControllerCall) → (IsTrue (is_token t.action) → IsClient one_client t.client) → is_token t.action ≡ true → ((t.client == 1) && is_token t.action) ≡ true
is_own t named token = let is = named token in let low = is.0 in let high = is.1 in let own : (t.client == 1) ≡ true = grind (arith, nat_tests) in rw (own, token) refl

and_false : (b c : Bool) → c ≡ false → (b && c) ≡ false
and_false true c is = is
and_false false c is = refl

-- no call before the one stop reports a stop
none_before : (shown freed : ℕ) (n : Numbers) (controller_calls : List ControllerCall) → IsHistoryFrom n controller_calls → IsCalm n → AllByRecursion (λ (t : ControllerCall). IsTrue (is_token t.action) → IsClient one_client t.client) controller_calls
    → tokens_of 1 controller_calls ≡ once shown freed → (place later : ℕ) → place < later → slice_get controller_calls later ≡ Some (a_stop shown) → (t : ControllerCall) (l : Look) → slice_get controller_calls place ≡ Some t → t.told ≡ Some l → l.stops ≡ 0
none_before shown freed n [] history calm named tokens place later before stopped t l there told = absurd (cc)
none_before shown freed n (u ∷ rest) history calm named tokens zero later before stopped t l there told =
    tells_none n u.action calm l (sym history.0 ∙ ap (λ (x : ControllerCall). x.told) (some_same there) ∙ told)
none_before shown freed n (u ∷ rest) history calm named tokens (suc place) zero before stopped t l there told = absurd (omega arith)
none_before shown freed n (u ∷ rest) history calm named tokens (suc place) (suc later) before stopped t l there told =
    elim (cases_Bool (is_token u.action)) [
      | inl token ↦ (
          let gone = behind_a_token shown freed ((u.client == 1) && is_token u.action) u _ (is_own u named.0 token) tokens in
          absurd (no_stop_at rest (subst HaveNoStop (sym gone) ((λ other e. cc), tt)) later shown stopped))
      | inr plain ↦ (
          none_before shown freed (numbers_after n u.action) rest history.1 (calm_after n u.action plain calm) named.1
          (behind_another shown freed ((u.client == 1) && is_token u.action) u _ (and_false (u.client == 1) (is_token u.action) plain) tokens) place later (omega arith) stopped t l there told)
    ]

-- The call that gave a refused commit its numbers is one of the history that the client then knows

pub record IsToldBefore (controller_calls : List ControllerCall) (knows : ℕ) (numbers : Look) : Type 0 where
  pub place : ℕ
  pub call : ControllerCall
  pub there : slice_get controller_calls place ≡ Some call
  pub told : call.told ≡ Some numbers
  pub before : place < knows

told_before : (controller_calls : List ControllerCall) (stopping : Bool) (client knew knows : ℕ) (numbers : Look) (fate : Option Fate) → IsTold controller_calls stopping client knew knows numbers fate → IsToldBefore controller_calls knows numbers
told_before controller_calls stopping client knew knows numbers None told = record { place = told.1; call = _; there = told.2.there; told = refl; before = told.3 }
told_before controller_calls stopping client knew knows numbers (Some fate) told = record { place = fate.place; call = _; there = told.3.there; told = refl; before = told.4 }

-- the commit passes the checks
passes : early_refusal 1 16777216 false (put_a1 ∷ []) noslow ≡ None
unfolding varint_within
passes = refl

-- if the calls run, the stop comes after the call that reported one, and is the client's only call of the controller
pub record StopsLater (trace : Trace) (end : Progress) : Type 0 where
  pub knows : ℕ
  pub told : IsToldBefore trace.controller_calls knows (record { stops = 1; delays = 0; wait = 0 })
  pub place : ℕ
  pub later : knows ≤ place
  pub shown : ℕ
  pub there : slice_get trace.controller_calls place ≡ Some (a_stop shown)
  pub asked : end.asked ≡ controller.stop shown ∷ []

stops_later : (trace : Trace) (end : Progress) → Run one_client trace 1 fresh later_stop_calls end → StopsLater trace end
stops_later trace end run =
    let begun = run.0 in let refused_at = run.2.0 in let stopped = run.2.2.0 in
    let first = run.1.replies in
    let pending = ap (λ (x : Progress). x.pending) first in let asked = ap (λ (x : Progress). x.asked) first in
    let refusal = is_attempted one_client trace 1 begun noslow (refused (no.Incomplete 1 0 0)) refused_at (rw (pending, asked) passes) run.2.1.replies in
    let shown : ℕ = run.2.2.1.replies.1 in
    let taken = run.2.2.1.replies.2 in
    record {
      knows = refused_at.known;
      told = told_before trace.controller_calls (holds_stop begun.asked) 1 begun.known refused_at.known _ refusal.0 refusal.1.1;
      place = taken.place;
      later = taken.is_later.later;
      shown = shown;
      there = taken.is_later.there;
      asked = ap (λ (x : Progress). x.asked) run.2.2.2 ∙ ap (λ (x : Progress). x.asked) taken.after ∙ ap (λ (x : Progress). x.asked ++ controller.stop shown ∷ []) refusal.2 ∙ ap (λ actions. actions ++ controller.stop shown ∷ []) asked;
    }

pub not_later : (ended : ℕ) → IsLegal one_client ended later_stop_script refused_by_a_later_stop → ⊥
unfolding once
not_later ended legal =
    let l = legal.legal in let right = (l.each 0 _ _ refl refl).2 in
    let s = stops_later legal.trace right.end (run_of one_client legal.trace 1 _ later_stop_calls right.end (λ e. cc) right.is_transcript) in
    let told = s.told in let before = told.before in let later = s.later in
    let none = none_before s.shown right.shown opening legal.trace.controller_calls l.is_trace.controller_calls (refl, refl) l.is_trace.tokens
    (right.tokens ∙ ap (λ asked. asked ++ given_back asked right.shown) s.asked) told.place s.place (omega (arith, before, later)) s.there told.call _ told.there told.told in
    absurd (omega (arith, none))
