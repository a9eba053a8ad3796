-- One line.
use Rattle.program_text.proofs.recovered.put_reason.Goals as goal

pub returns-in-Unfinished : goal.returns-in-Unfinished
returns-in-Unfinished g c = rw c.in-Unfinished.is c.put_line-in-Unfinished.ensures
