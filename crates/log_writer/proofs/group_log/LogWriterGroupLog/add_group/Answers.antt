use Rattle.std.proofs.Common.{refl}
use Rattle.log_writer.specs.FaultLaws.{came_in_call}
use Rattle.log_writer.specs.TellLaws.{one_file_known}
use Rattle.log_writer.specs.Written.{one_more}
use Rattle.log_writer.proofs.Growing.{one_goes_on}
use Rattle.log_writer.proofs.group_log.LogWriterGroupLog.add_group.Goals as goal

pub returns-clause-wrote : goal.returns-clause-wrote
returns-clause-wrote g c = λ opened calls wrote. one_more _ wrote c.add_group.ensures.adds

pub returns-clause-cause : goal.returns-clause-cause
returns-clause-cause g c = λ alive. came_in_call _ c.args.self.now c.add_group.new.self alive c.add_group.ensures.adds

pub returns-clause-same : goal.returns-clause-same
returns-clause-same g c = (c.add_group.ensures.adds.number, refl)

pub returns-clause-grows : goal.returns-clause-grows
returns-clause-grows g c = λ opened kept calls files keeps wrote is.
    let known = one_file_known opened c.add_group.new.self kept _ keeps (one_more _ wrote c.add_group.ensures.adds) in
    (known.0, known.1, one_goes_on g.met.D.Disk.is_disk _ c.args.self.now c.add_group.new.self files known.0 c.add_group.ensures.adds is known.1)
