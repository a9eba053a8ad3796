-- A refusal's text was printed, or there was no memory for it. A fault's was printed.
use Rattle.std.proofs.Common.{refl}
use Rattle.program_call.proofs.Refusing.{refuses}
use Rattle.program_call.proofs.report.tell_recover_error.Goals as goal

pub returns-in-Fault : goal.returns-in-Fault
returns-in-Fault g c = rw c.in-Fault.is (refl, c.refuse_fault.ensures)

pub returns-in-Damage : goal.returns-in-Damage
returns-in-Damage g c = rw c.in-Damage.is (refuses g.K.Sink _ _ _ _ _ _ c.refused.ensures c.print_damage_of-printed.ensures)
