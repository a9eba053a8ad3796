-- Histories of calls, and what each client has asked for in them.
use Rattle.std.proofs.Common.{◌≡◌, ℕ, max, List, [], ◌∷◌, ◌++◌, sym, ap, ◌∙◌, refl, arith}
use Rattle.std.proofs.lemmas.List.Sums.{fold-append}
use mathlib.Core.List.{IsPrefix}
use Rattle.model_base.specs.Controller as controller
use Rattle.model_base.specs.Controller.{ControllerCall, numbers_after, answer, IsHistoryFrom}
use Rattle.model_base.specs.Tokens.{shown_by_token, shown_by_tokens}
use Rattle.engine_controller.specs.declared.rule.Call.{Call}
use Rattle.engine_controller.specs.declared.numbers.Action.{Action}
use Rattle.engine_controller.specs.Numbers.{action_of, held_up_after, shown_after}
use Rattle.engine_controller.specs.Rule.{numbers_from, held_up_from, history_from, numbers_at, history_of, shown_at, call, AreNotOf}
use Rattle.engine_controller.specs.Passes.{AreOfOthers}

pub numbers_append : (n : controller.Numbers) (xs ys : List Call) → numbers_from n (xs ++ ys) ≡ numbers_from (numbers_from n xs) ys
numbers_append n [] ys = refl
numbers_append n (c ∷ xs) ys = numbers_append (numbers_after n (action_of c.action)) xs ys

pub held_up_append : (h : ℕ) (n : controller.Numbers) (xs ys : List Call)
    → held_up_from h n (xs ++ ys) ≡ held_up_from (held_up_from h n xs) (numbers_from n xs) ys
held_up_append h n [] ys = refl
held_up_append h n (c ∷ xs) ys =
    held_up_append (held_up_after c.client h n (action_of c.action)) (numbers_after n (action_of c.action)) xs ys

pub history_append : (n : controller.Numbers) (xs ys : List Call) → history_from n (xs ++ ys) ≡ history_from n xs ++ history_from (numbers_from n xs) ys
history_append n [] ys = refl
history_append n (c ∷ xs) ys = ap (λ ts. record { client = c.client; action = action_of c.action; told = answer n (action_of c.action) } ∷ ts) (history_append (numbers_after n (action_of c.action)) xs ys)

-- each history of calls is legal
pub legal_from : (n : controller.Numbers) (calls : List Call) → IsHistoryFrom n (history_from n calls)
legal_from n [] = tt
legal_from n (c ∷ calls) = (refl, legal_from (numbers_after n (action_of c.action)) calls)

pub others_from : (client : ℕ) (n : controller.Numbers) (calls : List Call) → AreNotOf client calls → AreOfOthers client (history_from n calls)
others_from client n [] a = tt
others_from client n (c ∷ calls) a = (a.0, others_from client (numbers_after n (action_of c.action)) calls a.1)

-- a beginning of the calls is a beginning of the history
pub history_prefix : (xs ys : List Call) → IsPrefix xs ys → IsPrefix (history_of xs) (history_of ys)
history_prefix xs ys p = (history_from (numbers_at xs) p.0, sym (history_append controller.opening xs p.0) ∙ ap history_of p.1)

-- the greatest number of the token calls after one more call
shown_by_one : (most : ℕ) (a : controller.Action) → max most (shown_by_token a) ≡ shown_after most a
shown_by_one most (controller.stop shown) = refl
shown_by_one most (controller.unstop shown) = refl
shown_by_one most (controller.slow rate shown) = refl
shown_by_one most (controller.unslow shown) = refl
shown_by_one most (controller.delay now bytes) = omega arith
shown_by_one most controller.look = omega arith
shown_by_one most (controller.say shown) = omega arith
shown_by_one most (controller.hear heard) = omega arith

pub shown_more : (calls : List Call) (client : ℕ) (a : Action) → shown_at (calls ++ call client a ∷ []) ≡ shown_after (shown_at calls) (action_of a)
shown_more calls client a =
    ap shown_by_tokens (history_append controller.opening calls (call client a ∷ []))
    ∙ fold-append (λ most (t : ControllerCall). max most (shown_by_token t.action)) 0 (history_of calls) (history_from (numbers_at calls) (call client a ∷ []))
    ∙ shown_by_one (shown_at calls) (action_of a)
