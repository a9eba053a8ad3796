-- A refusal's text was printed, or there was no memory for it. A fault's was printed.
use Rattle.std.proofs.Common.{refl}
use Rattle.program_call.proofs.Refusing.{refuses}
use Rattle.program_call.proofs.report.tell_read_error.Goals as goal

pub returns-in-Fault : goal.returns-in-Fault
returns-in-Fault g c = rw c.in-Fault.is (refl, c.refuse_fault.ensures)

pub returns-in-Script : goal.returns-in-Script
returns-in-Script g c = rw c.in-Script.is (refuses g.K.Sink _ _ _ _ _ _ c.refused.ensures c.print_script_fault-printed.ensures)
