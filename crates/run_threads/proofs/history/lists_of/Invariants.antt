use Rattle.std.proofs.Common.{◌≡◌, map}
use Rattle.run_threads.specs.Answers.{accepted_in}
use Rattle.run_threads.proofs.history.lists_of.Given as goal

-- the lists have the batches of the clients so far
abbrev pub invariant-loop-own : goal.invariant-loop-own
invariant-loop-own l = l.lists.items ≡ map accepted_in l.yielded
