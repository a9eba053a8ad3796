-- Which tokens of the write controller a client holds, as its own calls say; and what clients had been shown as they
-- took tokens or gave them back.
use Rattle.std.specs.Prelude.{◌≡◌, ℕ, ◌+◌, ◌<◌, ◌≤◌, IsTrue, Option, Some, None, take, slice_get, max, Bool, true, false, ◌&&◌, List, [], ◌∷◌, ◌++◌, map, filter, fold, ◌==◌, if◌then◌else◌}
use Rattle.model_base.specs.Controller.{ControllerCall, Action, stop, unstop, slow, unslow, delay, look, say, hear}

-- a call that takes a token or gives one back
abbrev pub is_token : Action → Bool
is_token (stop shown) = true
is_token (unstop shown) = true
is_token (slow rate shown) = true
is_token (unslow shown) = true
is_token (delay now bytes) = false
is_token look = false
is_token (say shown) = false
is_token (hear most) = false

-- the token calls of a client, in order
abbrev pub tokens_of : ℕ → List ControllerCall → List Action
tokens_of client controller_calls =
    map (λ (t : ControllerCall). t.action)
    (filter (λ (t : ControllerCall). (t.client == client) && is_token t.action) controller_calls)

abbrev pub stop_after : Bool → Action → Bool
stop_after held (stop shown) = true
stop_after held (unstop shown) = false
stop_after held other = held

abbrev pub holds_stop : List Action → Bool
holds_stop asked = fold stop_after false asked

abbrev pub slow_after : Bool → Action → Bool
slow_after held (slow rate shown) = true
slow_after held (unslow shown) = false
slow_after held other = held

abbrev pub holds_slow : List Action → Bool
holds_slow asked = fold slow_after false asked

-- what a client gives back at its end, where it had been shown what is published up to no further than `shown`
abbrev pub given_back : List Action → ℕ → List Action
given_back asked shown =
    (if holds_stop asked then unstop shown ∷ [] else []) ++ (if holds_slow asked then unslow shown ∷ [] else [])

-- the number of a call that takes a token or gives one back; of any other call 0
abbrev pub shown_by_token : Action → ℕ
shown_by_token (stop shown) = shown
shown_by_token (unstop shown) = shown
shown_by_token (slow rate shown) = shown
shown_by_token (unslow shown) = shown
shown_by_token (delay now bytes) = 0
shown_by_token look = 0
shown_by_token (say shown) = 0
shown_by_token (hear most) = 0

-- the greatest sequence up to which clients had been shown what is published, as they took tokens or gave them back by
-- these calls
abbrev pub shown_by_tokens : List ControllerCall → ℕ
shown_by_tokens calls = fold (λ most (t : ControllerCall). max most (shown_by_token t.action)) 0 calls

-- what a call says that its client, or those for whose group it asks next, had been shown; 0 where it says nothing
abbrev pub said_by : Action → ℕ
said_by (say shown) = shown
said_by other = 0

-- the greatest sequence that these calls say
abbrev pub said_in : List ControllerCall → ℕ
said_in calls = fold (λ most (t : ControllerCall). max most (said_by t.action)) 0 calls

-- What a client hears after a token call of its own isn't below any sequence that calls say up to that call.
abbrev pub AreHeard : List ControllerCall → Type 0
AreHeard calls = (at heard_at most : ℕ) (token : ControllerCall) → slice_get calls at ≡ Some token
    → IsTrue (is_token token.action) → at < heard_at
    → slice_get calls heard_at ≡ Some (record { client = token.client; action = hear most; told = None })
    → said_in (take (at + 1) calls) ≤ most
