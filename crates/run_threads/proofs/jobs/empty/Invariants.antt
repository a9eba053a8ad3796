use Rattle.std.proofs.Common.{◌≡◌, ◌+◌, ◌≤◌, ◌++◌, map, vec_len, vec_capacity}
use Rattle.run_threads.specs.Parts.{client_of, replies_of, batches_of}
use Rattle.run_threads.proofs.jobs.empty.Given as goal

abbrev pub invariant-loop-jobs : goal.invariant-loop-jobs
invariant-loop-jobs g l = record {
  clients : l.clients.items ++ map client_of l.jobs.items ≡ map client_of l.initial.jobs.items;
  replies : l.replies.items ++ map replies_of l.jobs.items ≡ map replies_of l.initial.jobs.items;
  batches : l.batches.items ++ map batches_of l.jobs.items ≡ map batches_of l.initial.jobs.items;
  room_clients : vec_len l.clients + vec_len l.jobs ≤ vec_capacity l.clients;
  room_replies : vec_len l.replies + vec_len l.jobs ≤ vec_capacity l.replies;
  room_batches : vec_len l.batches + vec_len l.jobs ≤ vec_capacity l.batches;
}

abbrev pub decreases-loop-jobs : goal.decreases-loop-jobs
decreases-loop-jobs g l = vec_len l.jobs
