-- At the closing: what clients heard isn't below anything that calls said up to their token calls.
use Rattle.std.proofs.Common.{◌≡◌, ℕ, zero, suc, ◌+◌, ◌<◌, ◌≤◌, max, Bool, true, List, [], ◌∷◌, ◌++◌, length, take, Some, None, sym, ap, ◌∙◌, refl, subst, arith, ⊎_elim}
use Rattle.std.proofs.lemmas.List.{take-append-le, take-take}
use Rattle.std.specs.Prelude.{slice_get, ◌==◌, ◌&&◌, if◌then◌else◌}
use Rattle.std.specs.List.{AllByRecursion}
use Rattle.model_base.specs.Controller as controller
use Rattle.model_base.specs.Controller.{ControllerCall, numbers_after}
use Rattle.model_base.specs.Tokens.{is_token, said_by, said_in, AreHeard}
use Rattle.model_base.proofs.Shown.{said_from}
use Rattle.engine_board.specs.declared.rule.Gathered.{Gathered}
use Rattle.engine_board.specs.declared.rule.BoardView.{BoardView}
use Rattle.engine_board.specs.Board.{In, AreMet}
use Rattle.engine_controller.specs.declared.controller.Controller.{Controller}
use Rattle.engine_controller.specs.declared.pass.Pass.{Pass}
use Rattle.engine_controller.specs.declared.rule.Call.{Call}
use Rattle.engine_controller.specs.declared.rule.Caller.TheVariants.{Client, Others}
use Rattle.engine_controller.specs.declared.numbers.Action.{Action}
use Rattle.engine_controller.specs.declared.numbers.Action.TheVariants.{Stop, Unstop, Slow, Unslow, Delay, Look, Say, Hear}
use Rattle.engine_controller.specs.Numbers.{action_of, token_weight}
use Rattle.engine_controller.specs.Rule.{history_from, history_of, call, observer, others, tokens_in, marked_of, AreMarked, IsOfOthers, Fits}
use Rattle.engine_controller.specs.Passes.{client_of, calls_seen, board_of, own_front, IsPassOf}
use Rattle.engine_controller.proofs.Totals.{all_at, get_append, get_take, get_within}
use Rattle.engine_controller.proofs.Counted.{is_own_token, counted_fewer, counted_next, front_after}
use Rattle.engine_controller.proofs.Asked.{same_client, not_that_client}
use Rattle.engine_controller.proofs.Closings.{observers_of, fits_of, client_within}
use Rattle.engine_controller.proofs.Places.{there_is}
use Rattle.engine_controller.proofs.Spoken.{Grows}

-- Calls and their history

-- a call of the history is one of these calls
history_at : (n : controller.Numbers) (calls : List Call) (i : ℕ) (t : ControllerCall) → slice_get (history_from n calls) i ≡ Some t
    → (k : Call) × (slice_get calls i ≡ Some k) × (t.client ≡ k.client) × (t.action ≡ action_of k.action)
history_at n [] i t e = absurd (cc (e))
history_at n (c ∷ calls) zero t e =
    let is : record { client = c.client; action = action_of c.action; told = controller.answer n (action_of c.action) } ≡ t = cc (e) in
    (c, refl, sym (ap (λ (x : ControllerCall). x.client) is), sym (ap (λ (x : ControllerCall). x.action) is))
history_at n (c ∷ calls) (suc i) t e = history_at (numbers_after n (action_of c.action)) calls i t e

hear_is : (a : Action) (most : ℕ) → controller.hear most ≡ action_of a → a ≡ Hear most
hear_is (Stop shown) most e = absurd (cc (e))
hear_is (Unstop shown) most e = absurd (cc (e))
hear_is (Slow rate shown) most e = absurd (cc (e))
hear_is (Unslow shown) most e = absurd (cc (e))
hear_is (Delay now bytes) most e = absurd (cc (e))
hear_is Look most e = absurd (cc (e))
hear_is (Say shown marked) most e = absurd (cc (e))
hear_is (Hear heard) most e = let same : heard ≡ most = cc (e) in ap Hear same

-- what is said by a call isn't above a number, where that is so of what a `say` says
said_low : (most : ℕ) (a : Action) → ((shown marked : ℕ) → a ≡ Say shown marked → shown ≤ most) → said_by (action_of a) ≤ most
said_low most (Stop shown) low = omega arith
said_low most (Unstop shown) low = omega arith
said_low most (Slow rate shown) low = omega arith
said_low most (Unslow shown) low = omega arith
said_low most (Delay now bytes) low = omega arith
said_low most Look low = omega arith
said_low most (Say shown marked) low = low shown marked refl
said_low most (Hear heard) low = omega arith

said_within : (most least : ℕ) (n : controller.Numbers) (calls : List Call) (m : ℕ) → least ≤ most
    → ((s : ℕ) (k : Call) → s < m → slice_get calls s ≡ Some k → said_by (action_of k.action) ≤ most)
    → said_from least (take m (history_from n calls)) ≤ most
said_within most least n calls zero low each = low
said_within most least n [] (suc m) low each = low
said_within most least n (c ∷ calls) (suc m) low each =
    let first = each 0 c (omega arith) refl in
    said_within most (max least (said_by (action_of c.action))) (numbers_after n (action_of c.action)) calls m (omega (arith, low, first))
    (λ s k less e. each (suc s) k (omega (arith, less)) e)

module _ {C : Type 0} (of : Controller C) (passes : List Pass) (each : (i : ℕ) (p : Pass) → slice_get passes i ≡ Some p → IsPassOf of p × (client_of p ≡ i + 1))
    (calls : List Call) (fits : AllByRecursion (Fits calls) (others (length passes) ++ observers_of passes)) (marks : AreMarked calls)
    (w : BoardView) (grown : (i : ℕ) (p : Pass) → slice_get passes i ≡ Some p → Grows (board_of p) w) (met : AreMet w.announced w.gathered) where
  -- the pass of the client that made this call, which has seen it
  record Maker (at : ℕ) (k : Call) : Type 0 where
    place : ℕ
    pass : Pass
    there : slice_get passes place ≡ Some pass
    client : client_of pass ≡ k.client
    rest : List Call
    begins : calls_seen pass ++ rest ≡ calls
    seen : slice_get (calls_seen pass) at ≡ Some k

  made_by : (at : ℕ) (k : Call) → slice_get calls at ≡ Some k → Maker at k
  made_by at k e = of_client k.client refl (client_within k.client (length passes) uncovered)
    where
      uncovered : IsOfOthers (Others (length passes)) k
      uncovered = all_at (IsOfOthers (Others (length passes))) calls (subst (AllByRecursion (IsOfOthers (Others (length passes)))) fits.0.begins fits.0.behind) at k e

      of_client : (c : ℕ) → k.client ≡ c → (1 ≤ c) × (c ≤ length passes) → Maker at k
      of_client zero same within = absurd (let low = within.0 in omega (arith, low))
      of_client (suc i) same within =
          let there = there_is passes i (let high = within.1 in omega (arith, high)) in
          let own = each i there.0 there.1 in
          let client : client_of there.0 ≡ k.client = own.1 ∙ (let more : i + 1 ≡ suc i = omega arith in more) ∙ sym same in
          let mine : Fits calls (observer (Client (client_of there.0)) (calls_seen there.0)) = (subst (AllByRecursion (Fits calls)) own.0.view (fits_of calls passes i there.0 there.1 fits.1)).0 in
          record {
            place = i;
            pass = there.0;
            there = there.1;
            client = client;
            rest = mine.rest;
            begins = mine.begins;
            seen = ⊎_elim
                (λ (t : (at < length (calls_seen there.0)) × (slice_get (calls_seen there.0) at ≡ Some k)). t.1)
                (λ (t : (j : ℕ) × (at ≡ length (calls_seen there.0) + j) × (slice_get mine.rest j ≡ Some k)).
                absurd (not_that_client k.client (client_of there.0) (all_at (IsOfOthers (Client (client_of there.0))) mine.rest mine.behind t.0 k t.2) (sym client)))
                (get_append (calls_seen there.0) mine.rest k at (subst (λ (l : List Call). slice_get l at ≡ Some k) (sym mine.begins) e));
          }

  -- What was heard after a token call

  module _ (at heard_at most client : ℕ) (token : Call) (token_at : slice_get calls at ≡ Some token) (of_client : token.client ≡ client) (takes : is_token (action_of token.action) ≡ true)
      (before : at < heard_at) (hear_at : slice_get calls heard_at ≡ Some (call client (Hear most))) where
    abbrev hearer : Maker heard_at (call client (Hear most))
    hearer = made_by heard_at (call client (Hear most)) hear_at

    abbrev mark : ℕ
    mark = tokens_in (own_front (client_of hearer.pass) (take heard_at (calls_seen hearer.pass)))

    abbrev found : Gathered
    found = record { mark = mark; found = most }

    gathered : In found w.gathered
    gathered =
        let own = each hearer.place hearer.pass hearer.there in
        let seen : slice_get (calls_seen hearer.pass) heard_at ≡ Some (call (client_of hearer.pass) (Hear most)) =
        hearer.seen ∙ ap (λ (c : ℕ). Some (call c (Hear most))) (sym hearer.client) in
        (grown hearer.place hearer.pass hearer.there).gathered found (own.0.heard heard_at most seen)

    -- the mark is above how many token calls there were before this one
    above : tokens_in (take at calls) < mark
    above =
        let seen : List Call = calls_seen hearer.pass in
        let high = get_within seen (call client (Hear most)) heard_at hearer.seen in
        let front : take (at + 1) (take heard_at seen) ≡ take (suc at) calls =
        take-take (at + 1) heard_at seen (omega (arith, before)) ∙ sym (take-append-le (at + 1) seen hearer.rest (omega (arith, before, high)))
        ∙ ap (take (at + 1)) hearer.begins ∙ ap (λ (n : ℕ). take n calls) (let more : at + 1 ≡ suc at = omega arith in more) in
        let token_seen : slice_get seen at ≡ Some token =
        ⊎_elim (λ (t : (at < length seen) × (slice_get seen at ≡ Some token)). t.1)
        (λ (t : (j : ℕ) × (at ≡ length seen + j) × (slice_get hearer.rest j ≡ Some token)). absurd (let past = t.1 in omega (arith, past, before, high)))
        (get_append seen hearer.rest token at (subst (λ (l : List Call). slice_get l at ≡ Some token) (sym hearer.begins) token_at)) in
        let own : is_own_token (client_of hearer.pass) token ≡ true =
        (λ i. (of_client i == hearer.client i) && takes i) ∙ ap (λ (b : Bool). b && true) (same_client client) in
        let after = front_after (client_of hearer.pass) (take heard_at seen) at token (get_take seen token heard_at at before token_seen) own in
        let same : tokens_in (take (at + 1) (take heard_at seen)) ≡ tokens_in (take (suc at) calls) = ap tokens_in front in
        let next = counted_next calls at token token_at in
        let one : token_weight (action_of token.action) ≡ 1 = ap (λ (b : Bool). if b then 1 else 0) takes in
        omega (arith, after, same, next, one)

    -- what a call up to the token call says was found
    found_by : (s : ℕ) (k : Call) → s < suc at → slice_get calls s ≡ Some k → (shown marked : ℕ) → k.action ≡ Say shown marked → shown ≤ most
    found_by s k less e shown marked is =
        let sayer : Maker s k = made_by s k e in
        let own = each sayer.place sayer.pass sayer.there in
        let announced = all_at _ (calls_seen sayer.pass) own.0.announced s k sayer.seen (sym sayer.client) shown marked is in
        let low : marked ≤ tokens_in (take s calls) = subst (λ (a : Action). marked_of a ≤ tokens_in (take s calls)) is (marks s k e) in
        let fewer = counted_fewer s at calls (omega (arith, less)) in
        let high = above in
        let said = met (record { mark = marked; said = announced.0 }) found ((grown sayer.place sayer.pass sayer.there).announced _ announced.1) gathered (omega (arith, low, fewer, high)) in
        let enough = announced.2 in
        omega (arith, said, enough)

    pub is_heard : said_in (take (at + 1) (history_of calls)) ≤ most
    is_heard =
        subst (λ (n : ℕ). said_in (take n (history_of calls)) ≤ most) (let more : suc at ≡ at + 1 = omega arith in more)
        (said_within most 0 controller.opening calls (suc at) (omega arith) (λ s k less e. said_low most k.action (found_by s k less e)))

  pub heard_at_closing : AreHeard (history_of calls)
  heard_at_closing at heard_at most token token_at takes before hear_at =
      let t = history_at controller.opening calls at token token_at in
      let h = history_at controller.opening calls heard_at (record { client = token.client; action = controller.hear most; told = None }) hear_at in
      let hears : h.0.action ≡ Hear most = hear_is h.0.action most h.3 in
      let own : h.0 ≡ call token.client (Hear most) = λ i. record { client = sym h.2 i; action = hears i } in
      is_heard at heard_at most token.client t.0 t.1 (sym t.2) (ap is_token (sym t.3) ∙ takes) before (h.1 ∙ ap (λ (k : Call). Some k) own)
