use Rattle.std.proofs.Common.{◌≡◌, map}
use Rattle.std.specs.List.{range_with_len}
use Rattle.model_base.specs.Generator.{first_state, batches_drawn}
use Rattle.run_scripts.specs.Scripts.{commands_of}
use Rattle.run_generator.proofs.clients.generate.Given as goal

-- the clients so far have their batches
abbrev pub invariant-loop-before : goal.invariant-loop-before
invariant-loop-before l = commands_of l.script ≡ map (λ client. batches_drawn l.batches client (first_state l.seed client)) (range_with_len 1 l.before)
