-- Whose delay was the last one that was told that writes are held up.
use Rattle.std.proofs.Common.{◌≡◌, ◌≢◌, ◌⊎◌, ℕ, suc, ◌+◌, ◌-◌, ◌<◌, Bool, true, false, true≢false, List, [], ◌∷◌, ◌++◌, length, length-append, Some, sym, ap, ◌∙◌, refl, subst, arith, inl, inr, ⊎_elim}
use Rattle.std.proofs.lemmas.Bool.Decides.{nat_tests}
use Rattle.std.specs.Prelude.{nat_lt, ◌||◌, ◌&&◌, if◌then◌else◌}
use Rattle.model_base.specs.Controller as controller
use Rattle.model_base.specs.Controller.{ControllerCall, HoldUp, numbers_after, answer, after_delay, look_with}
use Rattle.model_base.specs.Replies.{WasHeldUp}
use Rattle.model_base.proofs.Prefixes.{prefix_self}
use Rattle.model_base.proofs.Runs.{held_up_in}
use Rattle.engine_controller.specs.declared.numbers.Numbers.{Numbers}
use Rattle.engine_controller.specs.declared.numbers.Action.{Action}
use Rattle.engine_controller.specs.declared.numbers.Action.TheVariants.{Stop, Unstop, Slow, Unslow, Delay, Look, Say, Hear}
use Rattle.engine_controller.specs.declared.rule.Call.{Call}
use Rattle.engine_controller.specs.declared.rule.Observer.{Observer}
use Rattle.engine_controller.specs.Numbers.{action_of, holds_up, held_up_after}
use Rattle.engine_controller.specs.Rule.{numbers_at, held_up_at, held_up_from, history_from, history_of, call, client_in, seen_in, Makes}
use Rattle.engine_controller.proofs.Histories.{history_append, held_up_append}

above_none : (n : ℕ) → nat_lt 0 n ≡ true → 0 < n
above_none n e = grind (arith, nat_tests)

hold_up : (numbers : controller.Look) → holds_up numbers ≡ true → HoldUp numbers
hold_up numbers e = by_case (nat_lt 0 numbers.stops) (nat_lt 0 numbers.delays) (nat_lt 0 numbers.wait) refl refl refl e
  where
    by_case : (a b c : Bool) → nat_lt 0 numbers.stops ≡ a → nat_lt 0 numbers.delays ≡ b → nat_lt 0 numbers.wait ≡ c
        → (a || (b && c)) ≡ true → HoldUp numbers
    by_case true b c p q r t = inl (above_none numbers.stops p)
    by_case false true true p q r t = inr (above_none numbers.delays q, above_none numbers.wait r)
    by_case false true false p q r t = absurd (true≢false (sym t))
    by_case false false c p q r t = absurd (true≢false (sym t))

-- a call before these changes nothing for the delay that was told
one_before : (t : ControllerCall) (calls : List ControllerCall) (by place : ℕ) → WasHeldUp calls by place
    → WasHeldUp (t ∷ calls) by (place + 1)
one_before t calls by place was = record {
  at = suc was.at;
  now = was.now;
  bytes = was.bytes;
  told = was.told;
  there = was.there;
  before = omega (arith, was.before);
  holds_up = was.holds_up;
}

-- a call is itself a delay that is told so, or changes nothing
by_call : (client held_up : ℕ) (n : controller.Numbers) (a : Action) (rest : List ControllerCall)
    → (held_up_after client held_up n (action_of a) ≡ held_up)
    ⊎ WasHeldUp (record { client = client; action = action_of a; told = answer n (action_of a) } ∷ rest)
    (held_up_after client held_up n (action_of a)) 1
by_call client held_up n (Stop shown) rest = inl refl
by_call client held_up n (Unstop shown) rest = inl refl
by_call client held_up n (Slow rate shown) rest = inl refl
by_call client held_up n (Unslow shown) rest = inl refl
by_call client held_up n (Delay now bytes) rest = by_case (holds_up (look_with n (after_delay n now bytes).wait)) refl
  where
    told : controller.Look
    told = look_with n (after_delay n now bytes).wait

    by_case : (b : Bool) → holds_up told ≡ b
        → ((if b then client else held_up) ≡ held_up)
        ⊎ WasHeldUp (record { client = client; action = controller.delay now bytes; told = Some told } ∷ rest)
        (if b then client else held_up) 1
    by_case true e = inr (record { at = 0; now = now; bytes = bytes; told = told; there = refl; before = omega arith; holds_up = hold_up told e })
    by_case false e = inl refl
by_call client held_up n Look rest = inl refl
by_call client held_up n (Say shown marked) rest = inl refl
by_call client held_up n (Hear most) rest = inl refl

-- the client was told so among these calls, or it is the one that was told last before them
pub held_up_by : (held_up : ℕ) (n : controller.Numbers) (calls : List Call)
    → (held_up_from held_up n calls ≡ held_up)
    ⊎ WasHeldUp (history_from n calls) (held_up_from held_up n calls) (length (history_from n calls))
held_up_by held_up n [] = inl refl
held_up_by held_up n (c ∷ calls) =
    let next : controller.Numbers = numbers_after n (action_of c.action) in
    let first : ControllerCall = record { client = c.client; action = action_of c.action; told = answer n (action_of c.action) } in
    let now : ℕ = held_up_after c.client held_up n (action_of c.action) in
    let rest : List ControllerCall = history_from next calls in
    let long : length rest + 1 ≡ length (first ∷ rest) = omega arith in
    ⊎_elim
    (λ (same : held_up_from now next calls ≡ now). ⊎_elim
    (λ (stays : now ≡ held_up). inl (same ∙ stays))
    (λ (was : WasHeldUp (first ∷ rest) now 1). inr (subst (λ by. WasHeldUp (first ∷ rest) by (length (first ∷ rest))) (sym same)
    (held_up_in (first ∷ rest) (first ∷ rest) (prefix_self (first ∷ rest)) now 1 (length (first ∷ rest)) (omega (arith, long)) was)))
    (by_call c.client held_up n c.action rest))
    (λ (was : WasHeldUp rest (held_up_from now next calls) (length rest)).
    inr (subst (WasHeldUp (first ∷ rest) (held_up_from now next calls)) long (one_before first rest (held_up_from now next calls) (length rest) was)))
    (held_up_by now next calls)

-- after a look it is still the one that the look found
pub found_last : (v : List Observer) (x : Numbers) (w : List Observer) → Makes Look v x w → x.held_up ≡ held_up_at (seen_in w)
found_last v x w m =
    let seen : List Call = seen_in v ++ m.between in
    m.held_up ∙ sym (ap (λ (u : List Observer). held_up_at (seen_in u)) m.view ∙ held_up_append 0 controller.opening seen (call (client_in v) Look ∷ []))

-- the client that a call found was told so before the call
pub stalled : (a : Action) (v : List Observer) (x : Numbers) (w : List Observer) → Makes a v x w → x.held_up ≢ 0
    → WasHeldUp (history_of (seen_in w)) x.held_up (length (history_of (seen_in w)) - 1)
stalled a v x w m some =
    let seen : List Call = seen_in v ++ m.between in
    let last : List ControllerCall = history_from (numbers_at seen) (call (client_in v) a ∷ []) in
    let whole : history_of (seen_in w) ≡ history_of seen ++ last =
    ap (λ (u : List Observer). history_of (seen_in u)) m.view ∙ history_append controller.opening seen (call (client_in v) a ∷ []) in
    let place : length (history_of seen) ≡ length (history_of seen ++ last) - 1 = omega (arith, length-append (history_of seen) last) in
    let was : WasHeldUp (history_of seen) x.held_up (length (history_of seen)) = subst (λ by. WasHeldUp (history_of seen) by (length (history_of seen))) (sym m.held_up)
    (⊎_elim (λ (none : held_up_from 0 controller.opening seen ≡ 0). absurd (some (m.held_up ∙ none)))
    (λ (was : WasHeldUp (history_of seen) (held_up_from 0 controller.opening seen) (length (history_of seen))). was)
    (held_up_by 0 controller.opening seen)) in
    subst (λ (l : List ControllerCall). WasHeldUp l x.held_up (length l - 1)) (sym whole)
    (subst (WasHeldUp (history_of seen ++ last) x.held_up) place (held_up_in (history_of seen) (history_of seen ++ last) (last, refl) x.held_up (length (history_of seen)) (length (history_of seen)) (omega arith) was))
