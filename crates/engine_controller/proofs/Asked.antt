-- What a client has asked for, and how many tokens are held.
use Rattle.std.proofs.Common.{◌≡◌, ◌≢◌, ℕ, ◌+◌, ◌≤◌, Bool, true, false, List, [], ◌∷◌, ◌++◌, map, ap, ◌∙◌, refl, subst, arith}
use Rattle.std.specs.Prelude.{filter, ◌==◌, ◌&&◌}
use Rattle.std.specs.List.{AllByRecursion}
use Rattle.std.proofs.lemmas.List.{map-append, append-nil}
use Rattle.std.proofs.lemmas.List.Elements.{filter-append}
use Rattle.std.proofs.lemmas.List.Sums.{fold-append}
use Rattle.std.proofs.lemmas.Bool.Decides.{nat_tests}
use Rattle.model_base.specs.Controller as controller
use Rattle.model_base.specs.Controller.{ControllerCall, numbers_after}
use Rattle.model_base.specs.Tokens.{tokens_of, is_token, holds_stop, holds_slow, stop_after, slow_after}
use Rattle.engine_controller.specs.declared.rule.Call.{Call}
use Rattle.engine_controller.specs.declared.numbers.Action.{Action}
use Rattle.engine_controller.specs.declared.numbers.Action.TheVariants.{Stop, Unstop, Slow, Unslow, Delay, Look, Say, Hear}
use Rattle.engine_controller.specs.Numbers.{action_of}
use Rattle.engine_controller.specs.Rule.{history_from, numbers_at, history_of, asked_in, call, weight, MayCall}
use Rattle.engine_controller.specs.Passes.{token_in}
use Rattle.engine_controller.proofs.Histories.{history_append}
use Rattle.engine_controller.proofs.Unchanged.{leaves_delayed, slowed_stops, slowed_delays}

pub same_client : (c : ℕ) → (c == c) ≡ true
same_client c = grind (arith, nat_tests)

pub other_client : (c d : ℕ) → c ≢ d → (c == d) ≡ false
other_client c d n = grind (arith, nat_tests)

pub not_that_client : (c d : ℕ) → (c == d) ≡ false → c ≢ d
not_that_client c d e = grind (arith, nat_tests)

abbrev IsNotOf : ℕ → Call → Type 0
IsNotOf c k = (k.client == c) ≡ false

is_of : ℕ → ControllerCall → Bool
is_of c t = (t.client == c) && is_token t.action

pub tokens_append : (c : ℕ) (ts us : List ControllerCall) → tokens_of c (ts ++ us) ≡ tokens_of c ts ++ tokens_of c us
tokens_append c ts us =
    ap (λ l. map (λ (t : ControllerCall). t.action) l) (filter-append (λ (t : ControllerCall). (t.client == c) && is_token t.action) ts us)
    ∙ map-append (λ (t : ControllerCall). t.action) (filter (λ (t : ControllerCall). (t.client == c) && is_token t.action) ts) (filter (λ (t : ControllerCall). (t.client == c) && is_token t.action) us)

-- calls of others add nothing to what the client asked for
none_of_others : (c : ℕ) (n : controller.Numbers) (rest : List Call) → AllByRecursion (IsNotOf c) rest → tokens_of c (history_from n rest) ≡ []
none_of_others c n [] a = refl
none_of_others c n (k ∷ rest) a = rw a.0 (none_of_others c (numbers_after n (action_of k.action)) rest a.1)

pub asked_behind : (c : ℕ) (seen rest : List Call) → AllByRecursion (IsNotOf c) rest → asked_in c (seen ++ rest) ≡ asked_in c seen
asked_behind c seen rest a =
    ap (tokens_of c) (history_append controller.opening seen rest)
    ∙ tokens_append c (history_of seen) (history_from (numbers_at seen) rest)
    ∙ ap (λ l. asked_in c seen ++ l) (none_of_others c (numbers_at seen) rest a)
    ∙ append-nil (asked_in c seen)

tokens_one : (c : ℕ) (n : controller.Numbers) (a : Action) (b : Bool) → (c == c) ≡ b → b ≡ true → tokens_of c (history_from n (call c a ∷ [])) ≡ token_in (action_of a)
tokens_one c n (Stop shown) b e t = rw (e, t) refl
tokens_one c n (Unstop shown) b e t = rw (e, t) refl
tokens_one c n (Slow rate shown) b e t = rw (e, t) refl
tokens_one c n (Unslow shown) b e t = rw (e, t) refl
tokens_one c n (Delay now bytes) b e t = rw (e, t) refl
tokens_one c n Look b e t = rw (e, t) refl
tokens_one c n (Say shown marked) b e t = rw (e, t) refl
tokens_one c n (Hear most) b e t = rw (e, t) refl

pub asked_more : (c : ℕ) (seen : List Call) (a : Action) → asked_in c (seen ++ call c a ∷ []) ≡ asked_in c seen ++ token_in (action_of a)
asked_more c seen a =
    ap (tokens_of c) (history_append controller.opening seen (call c a ∷ []))
    ∙ tokens_append c (history_of seen) (history_from (numbers_at seen) (call c a ∷ []))
    ∙ ap (λ l. asked_in c seen ++ l) (tokens_one c (numbers_at seen) a (c == c) refl (same_client c))

stop_more : (asked : List controller.Action) (a : controller.Action) → holds_stop (asked ++ a ∷ []) ≡ stop_after (holds_stop asked) a
stop_more asked a = fold-append stop_after false asked (a ∷ [])

slow_more : (asked : List controller.Action) (a : controller.Action) → holds_slow (asked ++ a ∷ []) ≡ slow_after (holds_slow asked) a
slow_more asked a = fold-append slow_after false asked (a ∷ [])

-- whether a token is held after a call
pub stop_held : (a : Action) (asked : List controller.Action) → holds_stop (asked ++ token_in (action_of a)) ≡ stop_after (holds_stop asked) (action_of a)
stop_held (Stop shown) asked = stop_more asked (controller.stop shown)
stop_held (Unstop shown) asked = stop_more asked (controller.unstop shown)
stop_held (Slow rate shown) asked = stop_more asked (controller.slow rate shown)
stop_held (Unslow shown) asked = stop_more asked (controller.unslow shown)
stop_held (Delay now bytes) asked = ap holds_stop (append-nil asked)
stop_held Look asked = ap holds_stop (append-nil asked)
stop_held (Say shown marked) asked = ap holds_stop (append-nil asked)
stop_held (Hear most) asked = ap holds_stop (append-nil asked)

pub slow_held : (a : Action) (asked : List controller.Action) → holds_slow (asked ++ token_in (action_of a)) ≡ slow_after (holds_slow asked) (action_of a)
slow_held (Stop shown) asked = slow_more asked (controller.stop shown)
slow_held (Unstop shown) asked = slow_more asked (controller.unstop shown)
slow_held (Slow rate shown) asked = slow_more asked (controller.slow rate shown)
slow_held (Unslow shown) asked = slow_more asked (controller.unslow shown)
slow_held (Delay now bytes) asked = ap holds_slow (append-nil asked)
slow_held Look asked = ap holds_slow (append-nil asked)
slow_held (Say shown marked) asked = ap holds_slow (append-nil asked)
slow_held (Hear most) asked = ap holds_slow (append-nil asked)

-- the counts change as the tokens do
pub stops_count : (a : Action) (n : controller.Numbers) (asked : List controller.Action) → MayCall a asked → weight (holds_stop asked) ≤ n.stops
    → (numbers_after n (action_of a)).stops + weight (holds_stop asked) ≡ n.stops + weight (stop_after (holds_stop asked) (action_of a))
stops_count (Stop shown) n asked may le = rw may (omega arith)
stops_count (Unstop shown) n asked may le = let one : weight true ≤ n.stops = subst (λ b. weight b ≤ n.stops) may le in rw may (omega (arith, one))
stops_count (Slow rate shown) n asked may le = ap (λ k. k + weight (holds_stop asked)) (slowed_stops n rate)
stops_count (Unslow shown) n asked may le = refl
stops_count (Delay now bytes) n asked may le = ap (λ k. k + weight (holds_stop asked)) (leaves_delayed n now bytes).0
stops_count Look n asked may le = refl
stops_count (Say shown marked) n asked may le = refl
stops_count (Hear most) n asked may le = refl

pub delays_count : (a : Action) (n : controller.Numbers) (asked : List controller.Action) → MayCall a asked → weight (holds_slow asked) ≤ n.delays
    → (numbers_after n (action_of a)).delays + weight (holds_slow asked) ≡ n.delays + weight (slow_after (holds_slow asked) (action_of a))
delays_count (Stop shown) n asked may le = refl
delays_count (Unstop shown) n asked may le = refl
delays_count (Slow rate shown) n asked may le = rw may (omega (arith, slowed_delays n rate))
delays_count (Unslow shown) n asked may le = let one : weight true ≤ n.delays = subst (λ b. weight b ≤ n.delays) may le in rw may (omega (arith, one))
delays_count (Delay now bytes) n asked may le = ap (λ k. k + weight (holds_slow asked)) (leaves_delayed n now bytes).1
delays_count Look n asked may le = refl
delays_count (Say shown marked) n asked may le = refl
delays_count (Hear most) n asked may le = refl
