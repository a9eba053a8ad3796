use Rattle.std.proofs.Common.{◌≡◌, ◌+◌, ◌≤◌, length, vec_len, vec_capacity}
use Rattle.run_threads.specs.Answers.{records_in, accepted_in, ShowsAccepted, HasRoom}
use Rattle.run_threads.proofs.Going.{HaveGone}
use Rattle.run_threads.proofs.client.run_client.Given as goal

-- the commands so far were answered, what the others add fits, and there is room for their replies
abbrev pub invariant-loop-command : goal.invariant-loop-command
invariant-loop-command g l = record {
  belongs : g.E.Engine.belongs l.engine l.client;
  gone : HaveGone (g.E.Engine.settings l.engine) l.number l.commands l.command-iterator l.replies.items (g.E.Engine.account l.client) (records_in l.batches.current);
  accepted : ShowsAccepted l.number (accepted_in l.batches) (g.E.Engine.account l.client).mine;
  fits : HasRoom (records_in l.batches.current) l.command-iterator;
  count : l.call + length l.command-iterator ≡ length l.commands;
  told : vec_len l.replies + length l.command-iterator ≤ length l.commands;
  room : length l.commands ≤ vec_capacity l.replies;
}
