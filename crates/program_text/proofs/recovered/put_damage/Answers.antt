-- One line.
use Rattle.program_text.proofs.recovered.put_damage.Goals as goal

pub returns-in-BadChecksum : goal.returns-in-BadChecksum
returns-in-BadChecksum g c = rw c.in-BadChecksum.is c.put_line-in-BadChecksum.ensures
