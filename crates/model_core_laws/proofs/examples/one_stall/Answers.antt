-- The proof computes the states from event to event.
use Rattle.std.proofs.Common.{refl}
use Rattle.model_base.specs.Varint.{varint_within}
use Rattle.model_core_laws.proofs.examples.one_stall.Goals as goal

pub returns-clause-single_stage : goal.returns-clause-single_stage
unfolding varint_within
returns-clause-single_stage c = (refl, refl, refl, refl, refl, refl, refl)

pub returns-clause-pipelined : goal.returns-clause-pipelined
unfolding varint_within
returns-clause-pipelined c = (refl, refl, refl, refl, refl, refl, refl)
