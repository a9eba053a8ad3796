-- The text is that of what was recovered.
use Rattle.program_call.proofs.Refusing.{tells_text}
use Rattle.program_call.proofs.report.tell_logs.Goals as goal

pub returns-in-Ok : goal.returns-in-Ok
returns-in-Ok g c = rw c.in-Ok.is (tells_text g.K.Sink _ _ _ _ _ c.told.ensures c.print_recovered_logs.ensures)
