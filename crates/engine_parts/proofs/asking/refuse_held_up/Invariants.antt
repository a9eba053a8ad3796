-- The requests that were taken so far are refused.
use Rattle.std.proofs.Common.{◌≡◌, ◌+◌, ◌++◌, ℕ, List, length, vec_capacity}
use Rattle.std.specs.List.{AllZip}
use Rattle.engine_controller.specs.Looks.{look_of}
use Rattle.engine_parts.specs.declared.requests.Request.{Request}
use Rattle.engine_parts.specs.Handled.{IsHeldUp}
use Rattle.engine_parts.proofs.asking.refuse_held_up.Given as goal

abbrev pub invariant-loop-client : goal.invariant-loop-client
invariant-loop-client l = record {
  replies : (taken : List (ℕ × Request)) × (taken ++ l.requests.items ≡ l.initial.requests.items) × AllZip (IsHeldUp l.delay (look_of l.look)) taken l.replies.items;
  count : length l.replies.items + length l.requests.items ≡ length l.initial.requests.items;
  requests_room : vec_capacity l.requests ≡ vec_capacity l.initial.requests;
  replies_room : vec_capacity l.replies ≡ vec_capacity l.initial.replies;
}

abbrev pub decreases-loop-client : goal.decreases-loop-client
decreases-loop-client l = length l.requests.items
