-- One line.
use Rattle.program_text.proofs.parts.put_reply.Goals as goal

pub returns-in-ReadFault : goal.returns-in-ReadFault
returns-in-ReadFault g c = rw c.in-ReadFault.is c.put_line-in-ReadFault.ensures
