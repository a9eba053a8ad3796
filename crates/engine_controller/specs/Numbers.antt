-- The first five words as the numbers of the write controller's equations, and calls as the calls of those equations.
use Rattle.std.specs.Prelude.{ℕ, max, Bool, ◌||◌, ◌&&◌, nat_lt, if◌then◌else◌, List, [], ◌∷◌}
use Rattle.model_base.specs.Controller as controller
use Rattle.model_base.specs.Controller.{stop, unstop, slow, unslow, delay, look, say, hear, after_delay}
use Rattle.model_base.specs.Tokens.{is_token}
use Rattle.engine_controller.specs.declared.numbers.Numbers.{Numbers}
use Rattle.engine_controller.specs.declared.numbers.Action.{Action}
use Rattle.engine_controller.specs.declared.numbers.Action.TheVariants as call

-- the order of the words in the cell
abbrev pub words_of : Numbers → List ℕ
words_of n = n.stops ∷ n.delays ∷ n.rate ∷ n.credit ∷ n.next ∷ n.held_up ∷ n.shown ∷ n.tokens ∷ []

abbrev pub numbers_of : Numbers → controller.Numbers
numbers_of n = record { stops = n.stops; delays = n.delays; rate = n.rate; credit = n.credit; next = n.next }

abbrev pub action_of : Action → controller.Action
action_of (call.Stop shown) = stop shown
action_of (call.Unstop shown) = unstop shown
action_of (call.Slow rate shown) = slow rate shown
action_of (call.Unslow shown) = unslow shown
action_of (call.Delay now bytes) = delay now bytes
action_of call.Look = look
action_of (call.Say shown marked) = say shown
action_of (call.Hear most) = hear most

-- the wait that a call answers; only a delay may answer more than 0
abbrev pub wait_after : controller.Numbers → controller.Action → ℕ
wait_after n (delay now bytes) = (after_delay n now bytes).wait
wait_after n other = 0

-- these numbers say that writes are held up
abbrev pub holds_up : controller.Look → Bool
holds_up numbers = nat_lt 0 numbers.stops || (nat_lt 0 numbers.delays && nat_lt 0 numbers.wait)

-- which client was the last one to learn so, by its delay, after a call of this client at the numbers n, where it was
-- `held_up` before
abbrev pub held_up_after : ℕ → ℕ → controller.Numbers → controller.Action → ℕ
held_up_after client held_up n (delay now bytes) =
    if holds_up (controller.look_with n (after_delay n now bytes).wait) then client else held_up
held_up_after client held_up n other = held_up

-- the greatest number of the calls that took a token or gave one back, after a call, where it was `most` before
abbrev pub shown_after : ℕ → controller.Action → ℕ
shown_after most (stop shown) = max most shown
shown_after most (unstop shown) = max most shown
shown_after most (slow rate shown) = max most shown
shown_after most (unslow shown) = max most shown
shown_after most (delay now bytes) = most
shown_after most look = most
shown_after most (say shown) = most
shown_after most (hear heard) = most

-- 1 for a call that takes a token or gives one back, and 0 for any other
abbrev pub token_weight : controller.Action → ℕ
token_weight action = if is_token action then 1 else 0
