use Rattle.log_writer.proofs.SetOpening.{looked_self}
use Rattle.log_writer.proofs.set_opening.look_on.Goals as goal

pub returns-in-Err-clause-looked_at : goal.returns-in-Err-clause-looked_at
returns-in-Err-clause-looked_at g c = looked_self g.D.Disk c.args.disk.now
