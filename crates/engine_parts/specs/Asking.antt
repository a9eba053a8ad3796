-- How a leader's pass sees more while the leader handles its group.
use Rattle.std.specs.Prelude.{◌≡◌, ℕ, List, fold, map, max, None, Some}
use Rattle.std.specs.List.{AllByRecursion}
use mathlib.Core.List.{IsPrefix}
use Rattle.model_base.specs.Controller.{ControllerCall, Look, delay, say}
use Rattle.model_base.specs.Grouping.{size_of}
use Rattle.model_base.specs.Tokens.{tokens_of}
use Rattle.engine_controller.specs.Delays.{delays_of}
use Rattle.engine_controller.specs.Passes.{GoesOn, EndsWith}
use Rattle.engine_rule.specs.Plans.{item_of_request}
use Rattle.engine_parts.specs.declared.requests.Request.{Request}
use Rattle.engine_parts.specs.Handled.{commit_requests_of, noted_in}

-- the requests once the leader has taken their notes
abbrev pub all_seen : List (ℕ × Request) → List (ℕ × Request)
all_seen requests = map (λ (x : ℕ × Request). (x.0, record x.1 { note = None })) requests

-- the client has seen more calls of others, and so all that the members had seen
pub record HasLearned (client : ℕ) (seen : List ControllerCall) (requests : List (ℕ × Request))
    (after : List ControllerCall) : Type 0 where
  pub goes_on : GoesOn client seen after
  pub members : AllByRecursion (λ (x : ℕ × Request). IsPrefix (noted_in x.1.note) after) requests

-- the greatest sequence up to which a client of these requests had been shown what is published
abbrev pub greatest_shown : List (ℕ × Request) → ℕ
greatest_shown requests = fold (λ most (x : ℕ × Request). max most x.1.shown) 0 requests

-- The leader learned all that the leaders before it and the members had seen. Then it said the greatest sequence up to
-- which a member had been shown what is published. Then it asked for its delay, with the sum of the group's sizes, and
-- these numbers are the answer: that is the last call that it has seen.
pub record HasAskedFor (client : ℕ) (seen asked : List ControllerCall) (requests : List (ℕ × Request)) (numbers : Look)
    (after : List ControllerCall) : Type 0 where
  pub learned : List ControllerCall
  pub goes_on : GoesOn client seen learned
  pub leaders : IsPrefix asked learned
  pub members : AllByRecursion (λ (x : ℕ × Request). IsPrefix (noted_in x.1.note) learned) requests
  pub said : List ControllerCall
  pub says : EndsWith client learned (say (greatest_shown requests)) None said
  pub now : ℕ
  pub asks : EndsWith client said (delay now (size_of (map item_of_request (commit_requests_of requests))))
      (Some numbers) after

-- the history went on by calls of others and looks of the client
pub record OnlyLooks (client : ℕ) (seen after : List ControllerCall) : Type 0 where
  pub begins : IsPrefix seen after
  pub tokens : tokens_of client after ≡ tokens_of client seen
  pub delays : delays_of client after ≡ delays_of client seen
