-- Where no client asks for a stop or a slowdown, the controller's history has no tokens, and no write is held up.
use Rattle.std.proofs.Common.{◌≡◌, ℕ, zero, suc, Bool, true, false, IsTrue, cond, ◌==◌, nat_lt, ◌||◌, ◌&&◌, List, [], ◌∷◌, ◌++◌, map, Option, Some, None, slice_get, refl, sym, ap, ◌∙◌, subst, inl, inr, arith}
use Rattle.std.specs.List.{AllByRecursion}
use Rattle.std.proofs.lemmas.Bool.{cond-true}
use Rattle.model_base.specs.Controller as controller
use Rattle.model_base.specs.Controller.{ControllerCall, Action, Numbers, After, Look, HoldUp, ShowTokens, look_with, opening, after_delay, numbers_after, answer, IsHistoryFrom}
use Rattle.model_base.specs.Tokens.{is_token, tokens_of, holds_stop, holds_slow, given_back}
use Rattle.model_base.specs.Attempts.{Fate}
use Rattle.model_base.specs.Trace.{Trace, Settings}
use Rattle.model_base.specs.Progress.{Progress, fresh}
use Rattle.model_base.specs.Runs.{Run, commands_of, IsTranscript}
use Rattle.model_base.specs.Replies.{IsTold, Unstops, Unslows, Replies}
use Rattle.model_base.specs.Outcomes.{IsClient}
use Rattle.model_base.specs.Calls.{Command, add, clear, commit, get, many, scan, updates, stop, unstop, slow, unslow, Reply, done, not_held, Call}
use Rattle.run_laws.proofs.Lists.{some_same, all_front}
use Rattle.run_laws.proofs.Entries.{same_number}
use Rattle.run_laws.proofs.Progresses.{run_of}
use Rattle.run_laws.specs.Accepting.{asks_to_wait}
use Rattle.run_laws.proofs.Follows.{follows}

-- A client that asks for no stop and no slowdown never has a token

abbrev pub AsksNothing : List Command → Type 0
AsksNothing commands = AllByRecursion (λ command. asks_to_wait command ≡ false) commands

module _ (settings : Settings) (trace : Trace) (client : ℕ) where
  none_by_unstop : (p q : Progress) (reply : Reply) → p.asked ≡ [] → Unstops trace client p reply q → q.asked ≡ []
  none_by_unstop p q done none d = let not_held_now : holds_stop p.asked ≡ false = ap holds_stop none in let held_now = d.0 in absurd (cc)
  none_by_unstop p q not_held none d = ap (λ (x : Progress). x.asked) d.1 ∙ none
  none_by_unstop p q other none d = absurd d

  none_by_unslow : (p q : Progress) (reply : Reply) → p.asked ≡ [] → Unslows trace client p reply q → q.asked ≡ []
  none_by_unslow p q done none d = let not_held_now : holds_slow p.asked ≡ false = ap holds_slow none in let held_now = d.0 in absurd (cc)
  none_by_unslow p q not_held none d = ap (λ (x : Progress). x.asked) d.1 ∙ none
  none_by_unslow p q other none d = absurd d

  none_after : (p : Progress) (command : Command) (reply : Reply) (q : Progress) → asks_to_wait command ≡ false → p.asked ≡ [] → Replies settings trace client p command reply q → q.asked ≡ []
  none_after p stop reply q quiet none a = absurd (cc)
  none_after p (slow rate) reply q quiet none a = absurd (cc)
  none_after p unstop reply q quiet none a = none_by_unstop p q reply none a
  none_after p unslow reply q quiet none a = none_by_unslow p q reply none a
  none_after p (add r) reply q quiet none a = (follows settings trace client p (add r) reply q a).asked ∙ none
  none_after p (updates n) reply q quiet none a = (follows settings trace client p (updates n) reply q a).asked ∙ none
  none_after p clear reply q quiet none a = (follows settings trace client p clear reply q a).asked ∙ none
  none_after p (commit how) reply q quiet none a = (follows settings trace client p (commit how) reply q a).asked ∙ none
  none_after p (get key) reply q quiet none a = (follows settings trace client p (get key) reply q a).asked ∙ none
  none_after p (many keys) reply q quiet none a = (follows settings trace client p (many keys) reply q a).asked ∙ none
  none_after p (scan family lo hi) reply q quiet none a = (follows settings trace client p (scan family lo hi) reply q a).asked ∙ none

  none_by_run : (p : Progress) (calls : List Call) (q : Progress) → AsksNothing (commands_of calls) → p.asked ≡ [] → Run settings trace client p calls q → q.asked ≡ []
  none_by_run p [] q quiet none run = ap (λ (x : Progress). x.asked) run ∙ none
  none_by_run p (c ∷ calls) q quiet none run = none_by_run run.0 calls q quiet.1 (none_after p c.command c.reply run.0 quiet.0 none run.1.replies) run.2

  none_asked : (commands : List Command) (calls : List Call) (end : Progress) → AsksNothing commands → IsTranscript settings trace client commands calls end → end.asked ≡ []
  none_asked commands calls end quiet is =
      let r = run_of settings trace client commands calls end is in
      none_by_run fresh r.calls end (all_front (λ command. asks_to_wait command ≡ false) (commands_of r.calls) r.rest (subst AsksNothing r.of_commands quiet)) refl r.run

  pub no_tokens_of : (commands : List Command) (calls : List Call) (end : Progress) (shown : ℕ) → AsksNothing commands → IsTranscript settings trace client commands calls end
      → tokens_of client trace.controller_calls ≡ end.asked ++ given_back end.asked shown → tokens_of client trace.controller_calls ≡ []
  no_tokens_of commands calls end shown quiet is tokens = tokens ∙ ap (λ asked. asked ++ given_back asked shown) (none_asked commands calls end quiet is)

-- So the history has no tokens

abbrev pub HasNoTokens : List ControllerCall → Type 0
HasNoTokens controller_calls = AllByRecursion (λ (t : ControllerCall). is_token t.action ≡ false) controller_calls

abbrev actions_of : List ControllerCall → List Action
actions_of controller_calls = map (λ (t : ControllerCall). t.action) controller_calls

not_kept : (b : Bool) (t : ControllerCall) (rest : List ControllerCall) → actions_of (cond b (t ∷ rest) rest) ≡ [] → b ≡ false
not_kept true t rest none = absurd (cc)
not_kept false t rest none = refl

none_kept : (b : Bool) (t : ControllerCall) (rest : List ControllerCall) → actions_of (cond b (t ∷ rest) rest) ≡ [] → actions_of rest ≡ []
none_kept true t rest none = absurd (cc)
none_kept false t rest none = none

no_token_here : (t : ControllerCall) (rest : List ControllerCall) → tokens_of t.client (t ∷ rest) ≡ [] → is_token t.action ≡ false
no_token_here t rest none = subst (λ b. (b && is_token t.action) ≡ false) (same_number t.client t.client refl) (not_kept ((t.client == t.client) && is_token t.action) t _ none)

false_if : (b : Bool) → (IsTrue b → b ≡ false) → b ≡ false
false_if true f = f refl
false_if false f = refl

pub no_tokens : (settings : Settings) (controller_calls : List ControllerCall) → AllByRecursion (λ (t : ControllerCall). IsTrue (is_token t.action) → IsClient settings t.client) controller_calls
    → ((client : ℕ) → IsClient settings client → tokens_of client controller_calls ≡ []) → HasNoTokens controller_calls
no_tokens settings [] named none = tt
no_tokens settings (t ∷ controller_calls) named none = (
  false_if (is_token t.action) (λ is. no_token_here t controller_calls (none t.client (named.0 is))),
  no_tokens settings controller_calls named.1 (λ client is. none_kept ((t.client == client) && is_token t.action) t _ (none client is)),
)

-- and no call reports a stop or a slowdown

abbrev IsCalm : Numbers → Type 0
IsCalm n = (n.stops ≡ 0) × (n.delays ≡ 0)

abbrev pub TellsCalm : Look → Type 0
TellsCalm l = (l.stops ≡ 0) × (l.delays ≡ 0)

delay_calm : (n : Numbers) (now bytes : ℕ) → IsCalm n → (after_delay n now bytes).numbers ≡ n
delay_calm n now bytes calm =
    let none : (nat_lt 0 n.stops || (n.delays == 0)) ≡ true = rw (calm.0, calm.1) refl in
    ap (λ (a : After). a.numbers) (cond-true (nat_lt 0 n.stops || (n.delays == 0)) (record { numbers = n; wait = 0 }) _ none)

calm_after : (n : Numbers) (a : Action) → is_token a ≡ false → IsCalm n → IsCalm (numbers_after n a)
calm_after n (controller.delay now bytes) plain calm = subst IsCalm (sym (delay_calm n now bytes calm)) calm
calm_after n controller.look plain calm = calm
calm_after n (controller.say shown) plain calm = calm
calm_after n (controller.hear most) plain calm = calm
calm_after n other plain calm = absurd (cc)

answers_calm : (n : Numbers) (a : Action) → IsCalm n → (l : Look) → answer n a ≡ Some l → TellsCalm l
answers_calm n (controller.delay now bytes) calm l is = subst TellsCalm (some_same is) calm
answers_calm n controller.look calm l is = subst TellsCalm (some_same is) calm
answers_calm n other calm l is = absurd (cc)

told_at : (n : Numbers) (controller_calls : List ControllerCall) → IsHistoryFrom n controller_calls → HasNoTokens controller_calls → IsCalm n
    → (place : ℕ) (t : ControllerCall) (l : Look) → slice_get controller_calls place ≡ Some t → t.told ≡ Some l → TellsCalm l
told_at n [] history none calm place t l there told = absurd (cc)
told_at n (u ∷ controller_calls) history none calm zero t l there told =
    answers_calm n u.action calm l (sym history.0 ∙ ap (λ (x : ControllerCall). x.told) (some_same there) ∙ told)
told_at n (u ∷ controller_calls) history none calm (suc place) t l there told =
    told_at (numbers_after n u.action) controller_calls history.1 none.1 (calm_after n u.action none.0 calm) place t l there told

module _ (controller_calls : List ControllerCall) (history : IsHistoryFrom opening controller_calls) (none : HasNoTokens controller_calls) where
  not_up : (l : Look) → TellsCalm l → HoldUp l → ⊥
  not_up l calm (inl stopped) = let none_stop = calm.0 in omega arith
  not_up l calm (inr slow_now) = let none_slow = calm.1 in let some = slow_now.0 in omega arith

  not_either : (l : Look) → TellsCalm l → ShowTokens l → ⊥
  not_either l calm (inl stopped) = let none_stop = calm.0 in omega arith
  not_either l calm (inr slowed_by) = let none_slow = calm.1 in omega arith

  pub not_held_up : (stopping : Bool) (client knew knows : ℕ) (l : Look) (fate : Option Fate) → IsTold controller_calls stopping client knew knows l fate → ⊥
  not_held_up true client knew knows l None told = not_up l (told_at opening controller_calls history none (refl, refl) told.1 _ l told.2.there refl) told.4.1
  not_held_up false client knew knows l None told = not_either l (told_at opening controller_calls history none (refl, refl) told.1 _ l told.2.there refl) told.4.shown
  not_held_up stopping client knew knows l (Some fate) told = not_up l (told_at opening controller_calls history none (refl, refl) fate.place _ l told.3.there refl) told.5
