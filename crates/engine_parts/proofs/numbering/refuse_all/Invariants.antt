-- The answers so far, together with those to the rest, are all answers.
use Rattle.std.proofs.Common.{◌≡◌, ◌+◌, ◌++◌, length, vec_capacity}
use Rattle.engine_parts.proofs.numbering.refuse_all.Given as goal
use Rattle.engine_parts.specs.Handled.{failures}

abbrev pub invariant-loop-client : goal.invariant-loop-client
invariant-loop-client l = record {
  replies : l.replies.items ++ failures l.delay l.count l.requests.items ≡ failures l.delay l.count l.initial.requests.items;
  count : length l.replies.items + length l.requests.items ≡ length l.initial.requests.items;
  requests_room : vec_capacity l.requests ≡ vec_capacity l.initial.requests;
  replies_room : vec_capacity l.replies ≡ vec_capacity l.initial.replies;
}

abbrev pub decreases-loop-client : goal.decreases-loop-client
decreases-loop-client l = length l.requests.items
