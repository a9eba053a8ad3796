-- What is laid out so far, together with what the rest will add, is the whole layout.
use Rattle.std.proofs.Common.{◌≡◌, ◌+◌, ◌≤◌, List, ◌++◌, length, vec_capacity}
use Rattle.model_base.specs.History.{max_sequence}
use Rattle.table_rule.specs.declared.content.Version.{Version}
use Rattle.engine_parts.proofs.numbering.number_all.Given as goal
use Rattle.engine_parts.specs.Handled.{commit_requests_of}
use Rattle.engine_parts.specs.Numbering.{HasVersions, batches_of, numberings_of}
use Rattle.engine_rule.specs.Plans.{last_with_all, versions_from}

abbrev pub invariant-loop-client : goal.invariant-loop-client
invariant-loop-client l = record {
  last : l.at ≤ max_sequence;
  reached : last_with_all l.at (commit_requests_of l.requests.items) ≡ last_with_all l.last (commit_requests_of l.initial.requests.items);
  numberings : l.numberings.items ++ numberings_of l.at l.requests.items ≡ numberings_of l.last l.initial.requests.items;
  batches : l.batches.items ++ batches_of l.at l.requests.items ≡ batches_of l.last l.initial.requests.items;
  parts : (vs : List Version) × HasVersions l.member vs l.parts.parts × (vs ++ versions_from l.at (commit_requests_of l.requests.items) ≡ versions_from l.last (commit_requests_of l.initial.requests.items));
  clients : l.parts.clients ≡ l.initial.parts.clients;
  count : length l.numberings.items + length l.requests.items ≡ length l.initial.requests.items;
  fewer : length l.batches.items ≤ length l.numberings.items;
  plans_room : vec_capacity l.numberings ≡ vec_capacity l.initial.numberings;
  batches_room : vec_capacity l.batches ≡ vec_capacity l.initial.batches;
  requests_room : vec_capacity l.requests ≡ vec_capacity l.initial.requests;
}

abbrev pub decreases-loop-client : goal.decreases-loop-client
decreases-loop-client l = length l.requests.items
