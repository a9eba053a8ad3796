-- The first requests have no note any more, and the pass has seen what these notes show.
use Rattle.std.proofs.Common.{◌≡◌, ◌≤◌, take, drop, length, ◌++◌}
use Rattle.engine_controller.specs.Passes.{client_of, seen_by, IsPassOf}
use Rattle.engine_parts.specs.Asking.{all_seen, HasLearned}
use Rattle.engine_parts.proofs.asking.learn_all.Given as goal

abbrev pub invariant-loop-i : goal.invariant-loop-i
invariant-loop-i g l = record {
  in_range : l.i ≤ length l.initial.requests;
  pass : IsPassOf l.controller l.pass;
  client : client_of l.pass ≡ client_of l.initial.pass;
  learned : HasLearned (client_of l.initial.pass) (seen_by l.initial.pass) (take l.i l.initial.requests) (seen_by l.pass);
  requests : l.requests ≡ all_seen (take l.i l.initial.requests) ++ drop l.i l.initial.requests;
}
