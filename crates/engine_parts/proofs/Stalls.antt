-- What a look at a stall shows.
use Rattle.std.proofs.Common.{◌≡◌, ◌≢◌, inl, ℕ, ◌-◌, List, Some, length, refl, subst, arith}
use mathlib.Core.List.{IsPrefix}
use Rattle.model_base.specs.Controller.{ControllerCall, Look, ShowTokens, look}
use Rattle.model_base.specs.Replies.{IsLater, WasHeldUp, MetStall}
use Rattle.model_base.proofs.Prefixes.{prefix_length}
use Rattle.model_base.proofs.Runs.{held_up_in}
use Rattle.engine_controller.specs.Passes.{GoesOn, EndsWith, IsLast}
use Rattle.engine_controller.proofs.Account.{ends_last, goes_begins, goes_tokens}
use Rattle.engine_controller.proofs.Places.{goes_delays}
use Rattle.engine_parts.specs.Asking.{OnlyLooks}
use Rattle.engine_parts.specs.Handled.{LookedInStall, SawNoTokens}
use Rattle.engine_parts.proofs.Views.{only_more}

-- the history goes on by calls of others, and then the client looks
pub only_one : (client : ℕ) (seen middle after : List ControllerCall) (numbers : Look) → GoesOn client seen middle → EndsWith client middle look (Some numbers) after → OnlyLooks client seen after
only_one client seen middle after numbers g e = only_more client seen middle after (Some numbers) (record { begins = goes_begins client seen middle g; tokens = goes_tokens client seen middle g; delays = goes_delays client seen middle g }) e

-- a place after all of a history is after all of its beginning
later_front : (known middle after : List ControllerCall) (place : ℕ) (t : ControllerCall) → IsPrefix known middle → IsLater after (length middle) place t → IsLater after (length known) place t
later_front known middle after place t p l = record { later = (let a = prefix_length known middle p in let b = l.later in omega (arith, a, b)); there = l.there }

-- the leader looks after all that the note showed
pub looked_in_stall : (client : ℕ) (known seen middle after : List ControllerCall) (numbers : Look) → WasHeldUp seen client (length seen) → GoesOn client seen middle → IsPrefix known middle → EndsWith client middle look (Some numbers) after
    → LookedInStall known after numbers
looked_in_stall client known seen middle after numbers held g noted e =
    let last : IsLast client middle look (Some numbers) after = ends_last client middle look (Some numbers) after e in
    let begins : OnlyLooks client seen after = only_one client seen middle after numbers g e in
    record {
      by = client;
      place = last.place;
      is_later = later_front known middle after last.place _ noted last.is_later;
      stalled = held_up_in seen after begins.begins client (length seen) last.place (let a = prefix_length seen middle (goes_begins client seen middle g) in let b = last.is_later.later in omega (arith, a, b)) held;
    }

-- the look shows no tokens
pub saw_none : (client : ℕ) (seen middle after : List ControllerCall) (numbers : Look) → IsPrefix seen middle → EndsWith client middle look (Some numbers) after → (ShowTokens numbers → ⊥) → SawNoTokens client seen after
saw_none client seen middle after numbers p e none =
    let last : IsLast client middle look (Some numbers) after = ends_last client middle look (Some numbers) after e in
    record { place = last.place; numbers = numbers; is_later = later_front seen middle after last.place _ p last.is_later; none = none }

-- a client's own look shows that it met a stall of another one
pub met_stall : (client leader : ℕ) (seen after : List ControllerCall) (numbers : Look) (e : EndsWith client seen look (Some numbers) after) → leader ≢ client → WasHeldUp after leader (length after - 1) → ShowTokens numbers
    → MetStall after client client (ends_last client seen look (Some numbers) after e).place numbers
met_stall client leader seen after numbers e other held shown =
    let last : IsLast client seen look (Some numbers) after = ends_last client seen look (Some numbers) after e in
    let end : length after - 1 ≡ last.place = (let l = last.last in omega (arith, l)) in
    record { leader = leader; other = other; stalled = subst (WasHeldUp after leader) end held; looked = inl refl; shown = shown }
