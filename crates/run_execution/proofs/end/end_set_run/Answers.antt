use Rattle.std.proofs.Common.{refl, sym, ◌∙◌}
use Rattle.run_execution.proofs.end.end_set_run.Goals as goal

pub returns-in-Some-clause-end : goal.returns-in-Some-clause-end
returns-in-Some-clause-end g c = rw (c.in-Told.is, c.fault-fault.ensures) (_, refl, sym c.in-Some.ensures.items ∙ c.into_parts-disks.ensures.lens, refl)
