-- The rule of the controller's eight words, and what each step on them shows.
use Rattle.std.specs.Prelude.{◌≡◌, ◌≢◌, ℕ, ◌+◌, ◌-◌, ◌^◌, ◌≤◌, Bool, true, false, ◌||◌, ◌&&◌, List, [], ◌∷◌, ◌++◌, ◌==◌, nat_lt, ⊤, Option, Some, IfSome, ◌<◌, if◌then◌else◌, take, slice_get}
use Rattle.std.specs.List.{AllByRecursion, sum_by}
use mathlib.Core.Option.{some}
use mathlib.Core.List.{IsPrefix}
use lib.ListN.{get_elem?}
use Rattle.model_base.specs.Controller as controller
use Rattle.model_base.specs.Controller.{ControllerCall, numbers_after, answer}
use Rattle.model_base.specs.Tokens.{is_token, tokens_of, holds_stop, holds_slow, shown_by_tokens}
use Rattle.engine_controller.specs.declared.numbers.Numbers.{Numbers}
use Rattle.engine_controller.specs.declared.numbers.Action.{Action}
use Rattle.engine_controller.specs.declared.numbers.Action.TheVariants.{Stop, Unstop, Slow, Unslow, Delay, Look, Say, Hear}
use Rattle.engine_controller.specs.declared.rule.Call.{Call}
use Rattle.engine_controller.specs.declared.rule.Observer.{Observer}
use Rattle.engine_controller.specs.declared.rule.Caller.{Caller}
use Rattle.engine_controller.specs.declared.rule.Caller.TheVariants.{Nobody, Client, Others}
use Rattle.engine_controller.specs.Numbers.{numbers_of, action_of, held_up_after, token_weight}

-- Calls

-- the numbers after these calls, from `n` on
abbrev pub numbers_from : controller.Numbers → List Call → controller.Numbers
numbers_from n [] = n
numbers_from n (c ∷ calls) = numbers_from (numbers_after n (action_of c.action)) calls

-- which client was the last one by these calls to learn, by its delay, that writes are held up; `held_up`, where none
-- did
abbrev pub held_up_from : ℕ → controller.Numbers → List Call → ℕ
held_up_from held_up n [] = held_up
held_up_from held_up n (c ∷ calls) = held_up_from (held_up_after c.client held_up n (action_of c.action))
    (numbers_after n (action_of c.action)) calls

-- the same calls, each with its answer
abbrev pub history_from : controller.Numbers → List Call → List ControllerCall
history_from n [] = []
history_from n (c ∷ calls) =
    record { client = c.client; action = action_of c.action; told = answer n (action_of c.action) }
    ∷ history_from (numbers_after n (action_of c.action)) calls

abbrev pub numbers_at : List Call → controller.Numbers
numbers_at calls = numbers_from controller.opening calls

abbrev pub held_up_at : List Call → ℕ
held_up_at calls = held_up_from 0 controller.opening calls

abbrev pub history_of : List Call → List ControllerCall
history_of calls = history_from controller.opening calls

-- the greatest number of those of these calls that took a token or gave one back
abbrev pub shown_at : List Call → ℕ
shown_at calls = shown_by_tokens (history_of calls)

-- how many of these calls took a token or gave one back
abbrev pub tokens_in : List Call → ℕ
tokens_in [] = 0
tokens_in (c ∷ calls) = token_weight (action_of c.action) + tokens_in calls

-- how many of these calls there are up to the client's newest token call, with it; 0 where there is none
abbrev pub newest_token : ℕ → List Call → ℕ
newest_token client [] = 0
newest_token client (c ∷ calls) =
    if nat_lt 0 (newest_token client calls) || ((c.client == client) && is_token (action_of c.action))
    then newest_token client calls + 1 else 0

-- the mark that a client found on the board once it had said there what this call says; 0 where it says nothing
abbrev pub marked_of : Action → ℕ
marked_of (Say shown marked) = marked
marked_of other = 0

-- no mark that was found is above how many token calls there were before
abbrev pub AreMarked : List Call → Type 0
AreMarked calls = (at : ℕ) (c : Call) → slice_get calls at ≡ Some c → marked_of c.action ≤ tokens_in (take at calls)

abbrev pub call : ℕ → Action → Call
call client action = record { client = client; action = action }

-- Views

abbrev View : Type 0
View = List Observer

abbrev pub observer : Caller → List Call → Observer
observer caller seen = record { caller = caller; seen = seen }

-- a client's view
abbrev pub client_view : ℕ → List Call → List Observer
client_view client seen = observer (Client client) seen ∷ []

abbrev pub others : ℕ → List Observer
others known = observer (Others known) [] ∷ []

-- a client's number, or 0 for a caller that is no client
abbrev pub number_of : Caller → ℕ
number_of Nobody = 0
number_of (Client client) = client
number_of (Others known) = 0

abbrev pub client_in : List Observer → ℕ
client_in [] = 0
client_in (v ∷ observers) = number_of v.caller

abbrev pub seen_in : List Observer → List Call
seen_in [] = []
seen_in (v ∷ observers) = v.seen

abbrev pub IsClientView : List Observer → Type 0
IsClientView v = v ≡ client_view (client_in v) (seen_in v)

-- what the first observer has seen, as an observer that makes no calls
abbrev pub note_of : List Observer → List Observer
note_of observers = observer Nobody (seen_in observers) ∷ []

-- how many clients already have a pass, where the caller is the others; else 0
abbrev pub known_to : Caller → ℕ
known_to Nobody = 0
known_to (Client client) = 0
known_to (Others known) = known

abbrev pub known_in : List Observer → ℕ
known_in [] = 0
known_in (v ∷ observers) = known_to v.caller

-- the next client's pass is cut off from the others': these two are what is left, and the new client's view
abbrev pub fewer_others : List Observer → List Observer
fewer_others observers = others (known_in observers + 1)

abbrev pub next_client : List Observer → List Observer
next_client observers = client_view (known_in observers + 1) []

-- The rule

-- the caller may be this client
abbrev pub covers : Caller → ℕ → Bool
covers Nobody client = false
covers (Client own) client = client == own
covers (Others known) client = (client == 0) || nat_lt known client

abbrev pub IsOfOthers : Caller → Call → Type 0
IsOfOthers caller c = covers caller c.client ≡ false

-- The others' observer has seen nothing. So every call comes after what it has seen, and at closing no call is the
-- others'.
abbrev pub SeesFirst : Caller → List Call → Type 0
SeesFirst Nobody seen = ⊤
SeesFirst (Client client) seen = ⊤
SeesFirst (Others known) seen = seen ≡ []

-- the history begins with what the observer has seen, and no later call is the observer's own
pub record Fits (calls : List Call) (v : Observer) : Type 0 where
  pub rest : List Call
  pub begins : v.seen ++ rest ≡ calls
  pub behind : AllByRecursion (IsOfOthers v.caller) rest
  pub first : SeesFirst v.caller v.seen

abbrev pub weight : Bool → ℕ
weight true = 1
weight false = 0

-- 1 where the observer covers the client, and else 0
abbrev pub coverage : ℕ → Observer → ℕ
coverage client v = weight (covers v.caller client)

-- the client's calls that take a token or give one back
abbrev pub asked_in : ℕ → List Call → List controller.Action
asked_in client seen = tokens_of client (history_of seen)

-- 1 where the caller is a client that holds its token of that kind, and else 0
abbrev pub tokens_held_by : (List controller.Action → Bool) → List Call → Caller → ℕ
tokens_held_by holds seen Nobody = 0
tokens_held_by holds seen (Client client) = weight (holds (asked_in client seen))
tokens_held_by holds seen (Others known) = 0

abbrev pub tokens_held : (List controller.Action → Bool) → Observer → ℕ
tokens_held holds v = tokens_held_by holds v.seen v.caller

-- How many of 2 ^ 32 clients the caller covers. There are never more, so that a count of tokens plus one fits into a
-- word.
abbrev pub share_of : Caller → ℕ
share_of Nobody = 0
share_of (Client client) = 1
share_of (Others known) = 2 ^ 32 - known

abbrev pub share : Observer → ℕ
share v = share_of v.caller

abbrev pub total : (Observer → ℕ) → List (List Observer) → ℕ
total f views = sum_by (λ (v : List Observer). sum_by f v) views

-- There is one history of calls. The words are the numbers after it, the client that was the last one in it to learn
-- that writes are held up, and the greatest number of its calls that took a token or gave one back, and how many of
-- those there were. Each observer has seen a beginning of it, and no later call is its own. At most one observer covers
-- a client. The words `stops` and `delays` are how many clients hold a stop token and a slow token.
pub record Kept (x : Numbers) (views : List (List Observer)) : Type 0 where
  pub calls : List Call
  pub numbers : numbers_of x ≡ numbers_at calls
  pub held_up : x.held_up ≡ held_up_at calls
  pub shown : x.shown ≡ shown_at calls
  pub tokens : x.tokens ≡ tokens_in calls
  pub marks : AreMarked calls
  pub rate : 1 ≤ x.rate
  pub each : (i : ℕ) (v : List Observer) → get_elem? views i ≡ some v → AllByRecursion (Fits calls) v
  pub alone : (client : ℕ) → total (coverage client) views ≤ 1
  pub stops : x.stops ≡ total (tokens_held holds_stop) views
  pub delays : x.delays ≡ total (tokens_held holds_slow) views
  pub few : total share views ≤ 2 ^ 32

-- Steps

-- none of these calls is the client's
abbrev pub AreNotOf : ℕ → List Call → Type 0
AreNotOf client calls = AllByRecursion (λ (c : Call). c.client ≢ client) calls

-- a rate of at least 1, and so few stops and delays that no call makes them more than fits into a word
pub record IsInRange (x : Numbers) : Type 0 where
  pub rate : 1 ≤ x.rate
  pub stops : x.stops ≤ 2 ^ 32
  pub delays : x.delays ≤ 2 ^ 32

-- the client has seen the history so far, which begins with what each observer of its pass had seen
pub record Sees (v : List Observer) (x y : Numbers) (w : List Observer) : Type 0 where
  pub between : List Call
  pub view : w ≡ client_view (client_in v) (seen_in v ++ between)
  pub others : AreNotOf (client_in v) between
  pub known : AllByRecursion (λ (u : Observer). IsPrefix u.seen (seen_in v ++ between)) v
  pub numbers : numbers_of x ≡ numbers_at (seen_in v ++ between)
  pub shown : x.shown ≡ shown_at (seen_in v ++ between)
  pub tokens : x.tokens ≡ tokens_in (seen_in v ++ between)
  pub range : IsInRange x

-- the client has made a call, which is the last one of the history so far
pub record Makes (action : Action) (v : List Observer) (x : Numbers) (w : List Observer) : Type 0 where
  pub between : List Call
  pub view : w ≡ client_view (client_in v) ((seen_in v ++ between) ++ call (client_in v) action ∷ [])
  pub others : AreNotOf (client_in v) between
  pub numbers : numbers_of x ≡ numbers_at (seen_in v ++ between)
  pub held_up : x.held_up ≡ held_up_at (seen_in v ++ between)
  pub shown : x.shown ≡ shown_at (seen_in v ++ between)
  pub tokens : x.tokens ≡ tokens_in (seen_in v ++ between)
  -- where the client holds a stop token, `stops` counts it
  pub own_stop : holds_stop (asked_in (client_in v) (seen_in v)) ≡ true → 1 ≤ x.stops

-- an exchange makes the call where the numbers are still those that were found, even where the call changes no number
pub record Exchanges (action : Action) (found : Numbers) (v : List Observer) (x : Numbers) (w : List Observer) : Type 0
  where
    pub made : x ≡ found → Makes action v x w
    pub other : x ≢ found → Sees v x x w

-- a delay for these bytes, at the last moment where there is one, and else at any moment
abbrev pub IsDelayAt : Option ℕ → ℕ → Action → Type 0
IsDelayAt last bytes action = (now : ℕ) × IfSome last (λ moment. moment ≡ now) × (action ≡ Delay now bytes)

-- no client stops writes, and none slows them
abbrev pub is_free : Numbers → Bool
is_free x = (x.stops == 0) && (x.delays == 0)

-- a load that asks for a delay makes the call where no client stops or slows writes, since there the call changes no
-- word
pub record Asks (action : Action) (v : List Observer) (x : Numbers) (w : List Observer) : Type 0 where
  pub made : is_free x ≡ true → Makes action v x w
  pub other : is_free x ≡ false → Sees v x x w

-- A load that says something makes the call where the controller counts as many token calls as the mark that was found,
-- or more. Such a call changes no word.
pub record Says (action : Action) (v : List Observer) (x : Numbers) (w : List Observer) : Type 0 where
  pub made : marked_of action ≤ x.tokens → Makes action v x w
  pub other : x.tokens < marked_of action → Sees v x x w

-- there is a history that fits all the observers, and in it the marks are right
pub record Closes (v w : List Observer) : Type 0 where
  pub view : w ≡ v
  pub calls : List Call
  pub fits : AllByRecursion (Fits calls) v
  pub marks : AreMarked calls

-- a client takes a token only while it holds none of that kind, and gives back only a token that it holds
abbrev pub MayCall : Action → List controller.Action → Type 0
MayCall (Stop shown) asked = holds_stop asked ≡ false
MayCall (Unstop shown) asked = holds_stop asked ≡ true
MayCall (Slow rate shown) asked = holds_slow asked ≡ false
MayCall (Unslow shown) asked = holds_slow asked ≡ true
MayCall (Delay now bytes) asked = ⊤
MayCall Look asked = ⊤
MayCall (Say shown marked) asked = ⊤
MayCall (Hear most) asked = ⊤
