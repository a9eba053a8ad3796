use Rattle.std.proofs.Common.{refl}
use Rattle.run_execution.proofs.end.end_run.Goals as goal

pub returns-in-Told-clause-end : goal.returns-in-Told-clause-end
returns-in-Told-clause-end g c = rw (c.in-Told.is, c.len-log_len.ensures, c.fault-fault.ensures) (c.new.result, c.new.ensures.items, refl)
