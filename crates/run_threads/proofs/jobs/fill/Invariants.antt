use Rattle.std.proofs.Common.{◌≡◌, ◌+◌, ◌≤◌, ◌++◌, map, vec_len, vec_capacity}
use Rattle.run_threads.specs.Parts.{client_of, replies_of, batches_of}
use Rattle.run_threads.proofs.jobs.fill.Given as goal

abbrev pub invariant-loop-clients : goal.invariant-loop-clients
invariant-loop-clients g l = record {
  same : (vec_len l.clients ≡ vec_len l.replies) × (vec_len l.clients ≡ vec_len l.batches);
  clients : map client_of l.jobs.items ++ l.clients.items ≡ l.initial.clients.items;
  replies : map replies_of l.jobs.items ++ l.replies.items ≡ l.initial.replies.items;
  batches : map batches_of l.jobs.items ++ l.batches.items ≡ l.initial.batches.items;
  room : vec_len l.jobs + vec_len l.clients ≤ vec_capacity l.jobs;
  kept_clients : vec_capacity l.clients ≡ vec_capacity l.initial.clients;
  kept_replies : vec_capacity l.replies ≡ vec_capacity l.initial.replies;
  kept_batches : vec_capacity l.batches ≡ vec_capacity l.initial.batches;
}

abbrev pub decreases-loop-clients : goal.decreases-loop-clients
decreases-loop-clients g l = vec_len l.clients
