-- What is laid out so far, together with what the rest will add, is the whole layout.
use Rattle.std.proofs.Common.{◌≡◌, ◌+◌, ◌≤◌, ◌++◌, length, vec_capacity}
use Rattle.model_base.specs.History.{max_sequence}
use Rattle.table_nodes.specs.Parts.{group_of}
use Rattle.engine_parts.proofs.numbering.number_apart.Given as goal
use Rattle.engine_parts.specs.Handled.{commit_requests_of}
use Rattle.engine_parts.specs.Numbering.{batches_of, others_than, numberings_of}
use Rattle.engine_rule.specs.Plans.{AreLawful, HaveOwnClients, last_with_all}
use Rattle.engine_rule.specs.Parts.{members_of}
use Rattle.engine_stage_laws.specs.Served.{parts_from}
use Rattle.engine_parts.proofs.Apart.{AreLeft}

abbrev pub invariant-loop-client : goal.invariant-loop-client
invariant-loop-client l = record {
  last : l.at ≤ max_sequence;
  reached : last_with_all l.at (commit_requests_of l.requests.items) ≡ last_with_all l.last (commit_requests_of l.initial.requests.items);
  numberings : l.numberings.items ++ numberings_of l.at l.requests.items ≡ numberings_of l.last l.initial.requests.items;
  batches : l.batches.items ++ batches_of l.at l.requests.items ≡ batches_of l.last l.initial.requests.items;
  parts : group_of l.parts.parts ++ parts_from l.at (commit_requests_of l.requests.items) ≡ parts_from l.last (commit_requests_of l.initial.requests.items);
  lawful : AreLawful l.initial.parts.clients (commit_requests_of l.requests.items);
  own : HaveOwnClients (commit_requests_of l.requests.items);
  left : AreLeft l.parts.parts (commit_requests_of l.requests.items);
  beside : l.members.items ≡ others_than l.leader (members_of (group_of l.parts.parts));
  clients : l.parts.clients ≡ l.initial.parts.clients;
  count : length l.numberings.items + length l.requests.items ≡ length l.initial.requests.items;
  fewer : length l.batches.items ≤ length l.numberings.items;
  fewer_beside : length l.members.items ≤ length l.numberings.items;
  plans_room : vec_capacity l.numberings ≡ vec_capacity l.initial.numberings;
  batches_room : vec_capacity l.batches ≡ vec_capacity l.initial.batches;
  members_room : vec_capacity l.members ≡ vec_capacity l.initial.members;
  requests_room : vec_capacity l.requests ≡ vec_capacity l.initial.requests;
}

abbrev pub decreases-loop-client : goal.decreases-loop-client
decreases-loop-client l = length l.requests.items
