-- The search for a client's next call, a line at a time.
use Rattle.std.proofs.Common.{◌≡◌, ◌≢◌, ◌⊎◌, inl, inr, ℕ, ◌+◌, ◌≤◌, List, [], ◌∷◌, ◌++◌, length, drop, Some, None, refl, sym, ap, ◌∙◌, subst, arith, append-nil}
use Rattle.std.specs.Prelude.{slice_get}
use Rattle.std.specs.List.{cons_option}
use Rattle.std.proofs.lemmas.Option.{slice_get_past, slice_get_within}
use Rattle.std.proofs.Math.Seq.{drop-length}
use Rattle.model_base.specs.Calls.{Command, add, clear, quiet, Call}
use Rattle.model_core.specs.Core as core
use Rattle.run_command_list.specs.declared.command_kind.CommandKind.{CommandKind}
use Rattle.run_command_list.specs.declared.command_kind.CommandKind.TheVariants.{Addition, Clear, Commit, Read, Token}
use Rattle.run_command_list.specs.Kinds.{kind_of, record_added}
use Rattle.replay_plans.specs.Answers.{answers_of, is_answer}
use Rattle.replay_plans.specs.Ahead.{IsAhead}
use Rattle.replay_plans.specs.Plans.{added_between}
use Rattle.replay_plans.proofs.LineLemmas.{front_line, added_more, none_added}

-- the search has reached the line `i`, and the batch begins at the line `from`
pub record Reached (plan : List Command) (at start i from : ℕ) (calls : List Call) (client : core.Client) : Type 0 where
  pub now : List Call
  pub answers : answers_of now ≡ answers_of calls
  pub same : core.ahead calls (added_between start at plan) (drop at plan) client ≡ core.ahead now (added_between from i plan) (drop i plan) client
  pub begun : from ≤ i
  pub onward : at ≤ i

quiet_more : (calls : List Call) (command : Command) → answers_of (calls ++ record { command = command; reply = quiet } ∷ []) ≡ answers_of calls
quiet_more [] command = refl
quiet_more (c ∷ calls) command = ap (cons_option (is_answer c.reply)) (quiet_more calls command)

-- the kinds of commands that the search stops at
pub calls_alone : (k : CommandKind) → (k ≡ Commit) ⊎ ((k ≡ Read) ⊎ (k ≡ Token)) → (k ≢ Addition) × (k ≢ Clear)
calls_alone k (inl is) = (λ e. cc, λ e. cc)
calls_alone k (inr (inl is)) = (λ e. cc, λ e. cc)
calls_alone k (inr (inr is)) = (λ e. cc, λ e. cc)

module _ (plan : List Command) (at start i from : ℕ) (calls : List Call) (client : core.Client) where
  -- the search passes a line that adds to the batch
  pub past_addition : (x : Command) → slice_get plan i ≡ Some x → kind_of x ≡ Addition → Reached plan at start i from calls client → Reached plan at start (i + 1) from calls client
  past_addition (add a) here is r = record {
    now = r.now ++ record { command = add a; reply = quiet } ∷ [];
    answers = quiet_more r.now (add a) ∙ r.answers;
    same = r.same ∙ ap (λ cs. core.ahead r.now (added_between from i plan) cs client) (front_line plan i (add a) here)
        ∙ ap (λ rs. core.ahead (r.now ++ record { command = add a; reply = quiet } ∷ []) rs (drop (i + 1) plan) client) (sym (added_more from i plan (add a) r.begun here));
    begun = omega (arith, r.begun);
    onward = omega (arith, r.onward);
  }
  past_addition other here is r = absurd (cc is)

  -- the search passes a line that empties the batch
  pub past_clear : (x : Command) → slice_get plan i ≡ Some x → kind_of x ≡ Clear → Reached plan at start i from calls client → Reached plan at start (i + 1) (i + 1) calls client
  past_clear clear here is r = record {
    now = r.now ++ record { command = clear; reply = quiet } ∷ [];
    answers = quiet_more r.now clear ∙ r.answers;
    same = r.same ∙ ap (λ cs. core.ahead r.now (added_between from i plan) cs client) (front_line plan i clear here)
        ∙ ap (λ rs. core.ahead (r.now ++ record { command = clear; reply = quiet } ∷ []) rs (drop (i + 1) plan) client) (sym (none_added (i + 1) plan));
    begun = omega arith;
    onward = omega (arith, r.onward);
  }
  past_clear other here is r = absurd (cc is)

  -- the search ends at a call
  pub at_call : (x : Command) → slice_get plan i ≡ Some x → (kind_of x ≢ Addition) × (kind_of x ≢ Clear) → Reached plan at start i from calls client
      → IsAhead plan at (record { call = i; next = i + 1; from = from }) calls client (core.ahead calls (added_between start at plan) (drop at plan) client)
  at_call x here alone r =
      let P : core.Ahead → Type 0 = λ v. IsAhead plan at (record { call = i; next = i + 1; from = from }) calls client v in
      subst P (sym (r.same ∙ ap (λ cs. core.ahead r.now (added_between from i plan) cs client) (front_line plan i x here) ∙ stops x alone)) (record {
        call = sym here;
        left = refl;
        added = refl;
        later = added_more from i plan x r.begun here ∙ ap (λ o. added_between from i plan ++ cons_option o []) (adds_none x alone) ∙ append-nil (added_between from i plan);
        idle = refl;
        answers = r.answers;
        begun = r.begun;
        onward = r.onward;
        goes_on = λ lt. refl;
        stays = λ ge. absurd (omega (arith, ge, slice_get_within plan i x here));
        within = omega (arith, slice_get_within plan i x here);
      })
    where
      stops : (x : Command) → (kind_of x ≢ Addition) × (kind_of x ≢ Clear) → core.ahead r.now (added_between from i plan) (x ∷ drop (i + 1) plan) client
          ≡ record { call = Some x; client = record client { left = drop (i + 1) plan; added = added_between from i plan; calls = r.now } }
      stops (add a) alone = absurd (alone.0 refl)
      stops clear alone = absurd (alone.1 refl)
      stops other alone = refl

      adds_none : (x : Command) → (kind_of x ≢ Addition) × (kind_of x ≢ Clear) → record_added x ≡ None
      adds_none (add a) alone = absurd (alone.0 refl)
      adds_none other alone = refl

  -- the search ends after the last line
  pub at_end : i ≡ length plan → Reached plan at start i from calls client
      → IsAhead plan at (record { call = length plan; next = length plan; from = from }) calls client (core.ahead calls (added_between start at plan) (drop at plan) client)
  at_end e r =
      let P : core.Ahead → Type 0 = λ v. IsAhead plan at (record { call = length plan; next = length plan; from = from }) calls client v in
      let none : drop (length plan) plan ≡ [] = drop-length plan in
      let all : drop i plan ≡ [] = ap (λ k. drop k plan) e ∙ none in
      subst P (sym (r.same ∙ ap (λ cs. core.ahead r.now (added_between from i plan) cs client) all)) (record {
        call = sym (slice_get_past plan (length plan) (omega arith));
        left = sym none;
        added = ap (λ k. added_between from k plan) e;
        later = refl;
        idle = refl;
        answers = r.answers;
        begun = omega (arith, r.begun);
        onward = omega (arith, r.onward);
        goes_on = λ lt. absurd (omega arith);
        stays = λ ge. refl;
        within = omega arith;
      })
