-- A refusal's text was printed, or there was no memory for it. A fault's was printed.
use Rattle.std.proofs.Common.{refl}
use Rattle.program_call.proofs.Refusing.{refuses}
use Rattle.program_call.proofs.report.tell_end.Goals as goal

pub returns-in-DiskFault : goal.returns-in-DiskFault
returns-in-DiskFault g c = rw c.in-DiskFault.is (refl, c.refuse_fault.ensures)

pub returns-in-NotEmpty : goal.returns-in-NotEmpty
returns-in-NotEmpty g c = rw c.in-NotEmpty.is (refuses g.K.Sink _ _ _ _ _ _ c.refused.ensures c.print_not_empty.ensures)

pub returns-in-Damage : goal.returns-in-Damage
returns-in-Damage g c = rw c.in-Damage.is (refuses g.K.Sink _ _ _ _ _ _ c.refused-in-Damage.ensures c.print_damage.ensures)

pub returns-in-Family : goal.returns-in-Family
returns-in-Family g c = rw c.in-Family.is (refuses g.K.Sink _ _ _ _ _ _ c.refused-in-Family.ensures c.print_high_family.ensures)
