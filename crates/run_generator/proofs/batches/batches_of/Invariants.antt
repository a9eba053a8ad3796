use Rattle.std.proofs.Common.{◌≡◌, ◌++◌}
use Rattle.model_base.specs.Generator.{first_state, batches_drawn}
use Rattle.run_generator.proofs.batches.batches_of.Given as goal

-- the batches so far and those that are left are all of them
abbrev pub invariant-loop-left : goal.invariant-loop-left
invariant-loop-left l = l.commands ++ batches_drawn l.left l.client l.draws.state ≡ batches_drawn l.batches l.client (first_state l.seed l.client)

abbrev pub decreases-loop-left : goal.decreases-loop-left
decreases-loop-left l = l.left
